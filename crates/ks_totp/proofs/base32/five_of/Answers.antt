use Rattle.std.proofs.Common.{arith, inl, inr}
use Rattle.ks_totp.proofs.LetterLemmas.{letter_ranges}
use Rattle.ks_totp.proofs.base32.five_of.Goals as goal

pub returns-in_default-clause-none : goal.returns-in_default-clause-none
returns-in_default-clause-none c five lt is =
    elim (letter_ranges five lt) [ inl low ↦ omega (arith, low.0, low.1) | inr high ↦ omega (arith, high.0, high.1) ]

pub returns-in_default-2-clause-none : goal.returns-in_default-2-clause-none
returns-in_default-2-clause-none c five lt is =
    elim (letter_ranges five lt) [ inl low ↦ omega (arith, low.0, low.1) | inr high ↦ omega (arith, high.0, high.1) ]

pub returns-in_default-3-clause-none : goal.returns-in_default-3-clause-none
returns-in_default-3-clause-none c five lt is =
    elim (letter_ranges five lt) [ inl low ↦ omega (arith, low.0, low.1) | inr high ↦ omega (arith, high.0, high.1) ]
