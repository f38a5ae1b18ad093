use Rattle.std.proofs.Common.{◌∙◌, refl, arith, length-take}
use Rattle.std.proofs.lemmas.Result.{err_from_is_err_and}
use Rattle.visitors.proofs.Positions.{nth_part}
use Rattle.function_tests.proofs.Walking.{walked_more, walked_failed, walked_ended, walked_passed}
use Rattle.function_tests.proofs.each.test_each.Goals as goal

pub loop-step-init : goal.loop-step-init
loop-step-init g c = λ xs gives t says. refl

pub returns-in_default : goal.returns-in_default
returns-in_default g c =
    λ xs gives t says. walked_ended t _ c.loop-step.step _ _ (c.loop-step.invariant xs gives t says)
    (gives _ _ c.in_default.ensures ∙ nth_part xs c.args.start c.args.count c.loop-step.step c.loop-step-test.true)

pub loop-step-preserved : goal.loop-step-preserved
loop-step-preserved g c =
    λ xs gives t says. walked_more t _ c.loop-step.step _ _ (c.loop-step.invariant xs gives t says) _ _
    (gives _ _ c.in-Some.ensures ∙ nth_part xs c.args.start c.args.count c.loop-step.step c.loop-step-test.true)
    (says _ _ _ _ c.in_ok-walked.ensures)

pub returns : goal.returns
returns g c =
    λ xs gives t says. walked_passed t _ c.loop-step.step _ _ (c.loop-step.invariant xs gives t says)
    (simp length-take (omega (arith, c.loop-step-test.false)))

pub returns-in_err-walked : goal.returns-in_err-walked
returns-in_err-walked g c =
    let p = err_from_is_err_and c.from_residual.result c.from_residual.ensures.1 in
    λ xs gives t says. rw (p.1, p.2)
    (walked_failed t _ c.loop-step.step _ _ (c.loop-step.invariant xs gives t says) _ _
    (gives _ _ c.in-Some.ensures ∙ nth_part xs c.args.start c.args.count c.loop-step.step c.loop-step-test.true)
    (says _ _ _ _ c.in_err-walked.ensures))
