-- `decoding::tokens::spelled` meets its contract, by the rule of the table.
-- Assumes nothing.
use mathlib.Core.Path.{sym, ◌∙◌, ap}
use mathlib.Core.List.{[], ◌∷◌}
use native.Mathlib.Omega.{arith}
use borrow.Author.Tests.{ltb-true}
use Rattle.names.specs.Letters.{same}
use Rattle.decoding.proofs.tokens.Checks.{same_slices, sign_byte, sign_once, sign_twice}
use Rattle.decoding.proofs.tokens.spelled.Goals as goal

pub returns-in-Some : goal.returns-in-Some
returns-in-Some c =
    let byte = sign_byte _ _ _ c.in-Some.ensures.lookup.1 c.from.ensures (omega (arith, c.if-kind-lt-SHIFT_LEFT.true)) in
    c.eq.ensures ∙ same_slices _ _ ∙ ap (same c.args.text.now) c.as_slice.ensures ∙ ap (λ b. same c.args.text.now (b ∷ [])) byte ∙ sym (sign_once _ _ (omega (arith, c.if-kind-lt-SHIFT_LEFT.true)))

pub returns-in-Some-2 : goal.returns-in-Some-2
returns-in-Some-2 c =
    let within = ltb-true c.from.result 21 (sym c.in-Some.ensures.lookup.0) in
    let byte = sign_byte _ _ _ c.in-Some.ensures.lookup.1 c.from.ensures (omega (arith, within, c.from.ensures)) in
    c.eq-in-Some-2.ensures ∙ same_slices _ _ ∙ ap (same c.args.text.now) c.as_slice-in-Some-2.ensures ∙ ap (λ b. same c.args.text.now (b ∷ b ∷ [])) byte ∙ sym (sign_twice _ _ (omega (arith, c.if-kind-lt-SHIFT_LEFT.false, c.requires)) (omega (arith, within, c.from.ensures)))
