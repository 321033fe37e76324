-- `book::FittedBook::first_invalid_word` meets its contract: the search goes over the head, and then over the cells. Assumes nothing.
use mathlib.Core.Path.{◌≡◌, ◌∙◌, refl}
use mathlib.Core.List.{List}
use Prim.Native.Nat.{ℕ, ◌+◌, ◌≤◌, ◌<◌}
use native.Mathlib.Nat.{zero-add}
use native.Mathlib.Omega.{arith}
use Rattle.words.specs.Search.{first_invalid}
use Rattle.words.proofs.Steps.{Passed, passed_none}
use Rattle.fields.specs.declared.Head.{Head}
use Rattle.listing.specs.Layout.{head, cells, horizon}
use Rattle.book.specs.Layout.{book_size}
use Rattle.book.specs.Check.{head_word_valid, book_word_valid}
use Rattle.book.specs.AcceptedBook.{Fitted}
use Rattle.book.specs.declared.Shape.{Shape}
use Rattle.book.proofs.AcceptedBook.{fitted_book}
use Rattle.book.proofs.Parts.{part_stop, part_more}
use Rattle.book.proofs.Valid.{valid_head}
use Rattle.book.proofs.FittedBook.first_invalid_word.Goals as goal

-- the head, where its own search found k
module _ {s : Shape} {l b : List ℕ} {h : Head} {end : ℕ} (f : Fitted s l b) (same : h ≡ head l) (last : end ≡ book_size s (cells l)) (k : ℕ)
    (e : k ≡ first_invalid (head_word_valid h.horizon b) 0 s.head) where
  same_head : (j : ℕ) → j < s.head → book_word_valid s l b (0 + j) ≡ head_word_valid (horizon l) b j
  same_head j h = rw zero-add (valid_head s l b j h)

  head-stop : k < s.head → k ≡ first_invalid (book_word_valid s l b) 0 end
  head-stop lt = part_stop (book_word_valid s l b) 0 end (head_word_valid (horizon l) b) s.head (omega arith) same_head k passed_none (rw same at e) k (omega arith) lt

  -- past it
  behind : s.head ≤ k → Passed (book_word_valid s l b) 0 end s.head
  behind le = part_more (book_word_valid s l b) 0 end (head_word_valid (horizon l) b) s.head (omega arith) same_head k passed_none (rw same at e) s.head (omega arith) le

pub returns-then-k-self : goal.returns-then-k-self
returns-then-k-self c =
    head-stop (fitted_book c.args.self.now) c.args.self.now.listing.is_head refl _ c.first_invalid_head_word-k.ensures c.if-k-self.true

pub returns-then-cells_valid : goal.returns-then-cells_valid
returns-then-cells_valid c =
    let past = behind (fitted_book c.args.self.now) c.args.self.now.listing.is_head refl _ c.first_invalid_head_word-k.ensures c.if-k-self.false in
    c.size.ensures ∙ c.cells_valid.ensures c.if-cells_valid.true ∙ past.same

pub returns : goal.returns
returns c =
    c.first_invalid_cell_word.ensures ∙ (behind (fitted_book c.args.self.now) c.args.self.now.listing.is_head refl _ c.first_invalid_head_word-k.ensures c.if-k-self.false).same
