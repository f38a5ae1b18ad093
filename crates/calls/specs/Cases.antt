-- All ten small cases in one check: three aligns on one branch, seven merges on one straight block.
use Rattle.std.specs.Prelude.{◌≡◌, map}
use Rattle.align_rules.specs.Cases as aligns
use Rattle.merge_rules.specs.Cases as merges

-- what the definitions compute is what is expected, case by case
abbrev pub TenCasesHold : Type 0
TenCasesHold =
    (aligns.answers ≡ aligns.expected) ×
    (map (λ e. merges.outcome e.given) merges.examples ≡ map (λ e. e.answer) merges.examples)
