use Rattle.std.proofs.Common.{◌+◌, sym, refl, ◌∙◌, rules}
use Rattle.function_tests.proofs.Alls.{part_more, part_failed, part_ended, part_passed}
use Rattle.function_tests.proofs.each.all_words.Goals as goal

pub loop-i-init : goal.loop-i-init
loop-i-init g c = λ t says. refl

pub returns-in_default : goal.returns-in_default
returns-in_default g c =
    λ t says. part_ended t (g.S.Source.function c.args.source.now).words (c.args.part.start + c.args.part.skip) c.args.part.count c.loop-i.i (c.loop-i.invariant t says) (search rules) c.in_default.ensures

pub returns-then-not-test : goal.returns-then-not-test
returns-then-not-test g c =
    λ t says. part_failed t (g.S.Source.function c.args.source.now).words (c.args.part.start + c.args.part.skip) c.args.part.count c.loop-i.i (c.loop-i.invariant t says) _ (search rules) c.in-Some.ensures (sym (says _ _ c.test.ensures) ∙ c.if-not-test.true)

pub loop-i-preserved : goal.loop-i-preserved
loop-i-preserved g c =
    λ t says. part_more t (g.S.Source.function c.args.source.now).words (c.args.part.start + c.args.part.skip) c.args.part.count c.loop-i.i (c.loop-i.invariant t says) _ (search rules) c.in-Some.ensures (sym (says _ _ c.test.ensures) ∙ c.if-not-test.false)

pub returns : goal.returns
returns g c =
    λ t says. part_passed t (g.S.Source.function c.args.source.now).words (c.args.part.start + c.args.part.skip) c.args.part.count c.loop-i.i (c.loop-i.invariant t says) (search rules)
