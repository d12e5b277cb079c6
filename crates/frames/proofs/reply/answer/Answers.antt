-- `frames::reply::answer` meets its contract.
-- Assumes nothing.
use native.Mathlib.Omega.{arith}
use lib.Seq.{length-take-le}
use Rattle.frames.proofs.batches.Turns.{layout_by, held_long, held_narrow, held_over, held_wide, narrow_stores}
use Rattle.frames.proofs.output.Filling.{put_as}
use Rattle.frames.proofs.reply.answer.Goals as goal

pub answer_digits-requires : goal.answer_digits-requires
answer_digits-requires c =
    let s = narrow_stores in
    record {
      stores = record { fits = omega (arith, length-take-le c.min.result c.args.carry.now (omega (arith, c.min.ensures)), c.min.ensures); nodes_long = omega (arith, s.0); diagnostics_long = omega (arith, s.1) };
      room = c.requires;
    }

pub returns-in-Some-clause-wrote : goal.returns-in-Some-clause-wrote
returns-in-Some-clause-wrote c =
    let more = c.if-held-gt-LONGEST.true in
    put_as _ _ (held_long c.args.held c.min.result c.args.carry.now _ (omega (arith, more)) (omega (arith, c.min.ensures, more)) (layout_by _ _ c.in-Some.ensures.cases.0)) c.refuse.ensures.wrote

pub returns-in-Some-2-clause-wrote : goal.returns-in-Some-2-clause-wrote
returns-in-Some-2-clause-wrote c =
    let all = c.if-held-gt-LONGEST.false in
    put_as _ _ (held_wide c.args.held c.min.result c.args.carry.now (omega (arith, all)) (omega (arith, c.min.ensures, all)) _ (rw (← c.in-Some-2.rest-is) at c.in-Some-2.ensures.cases.1) (layout_by _ _ c.in-Some-2.ensures.cases.0)) c.answer_wide.ensures.wrote

pub returns-in-Some-3-clause-wrote : goal.returns-in-Some-3-clause-wrote
returns-in-Some-3-clause-wrote c =
    let all = c.if-held-gt-LONGEST.false in
    put_as _ _ (held_wide c.args.held c.min.result c.args.carry.now (omega (arith, all)) (omega (arith, c.min.ensures, all)) _ (rw (← c.in-Some-3.rest-is) at c.in-Some-3.ensures.cases.1) (layout_by _ _ c.in-Some-3.ensures.cases.0)) c.answer_wide-in-Some-3.ensures.wrote

pub returns-in-None-clause-wrote : goal.returns-in-None-clause-wrote
returns-in-None-clause-wrote c =
    put_as _ _ (held_over c.args.held c.min.result c.args.carry.now (omega arith) (λ h. omega (arith, c.min.ensures)) (λ h. omega (arith, c.min.ensures)) (layout_by _ _ c.in-None.ensures.cases) (omega (arith, c.if-held-gt-LONGEST_NARROW.true))) c.refuse-in-None.ensures.wrote

pub returns-in-None-2-clause-wrote : goal.returns-in-None-2-clause-wrote
returns-in-None-2-clause-wrote c =
    let few = c.if-held-gt-LONGEST_NARROW.false in
    put_as _ _ (held_narrow c.args.held c.min.result c.args.carry.now (omega (arith, few)) (omega (arith, c.min.ensures, few)) (layout_by _ _ c.in-None-2.ensures.cases)) c.answer_digits.ensures.wrote
