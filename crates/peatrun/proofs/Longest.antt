-- An accepted listing has at most seven terms for each year, and so at most 4,303 words. Assumes nothing.
use native.Mathlib.Omega.{arith}
use Rattle.listing.proofs.Accepted.{accepted}
use Rattle.peatrun.specs.Years.{Longest}

pub longest : Longest
longest l done =
    let a = accepted l done in
    omega (arith, a.words_at_most, a.parts.terms_at_most, a.head_valid.horizon.1)
