-- Sets of rules.
use Rattle.std.specs.Prelude.{◌≡◌, Some, slice_get, true}
use denote.Enum.Declared.{tag_of}
use Rattle.lint_document.specs.contracts.rule.Rule.{the_type}
use Rattle.lint_document.specs.declared.rule.Rule.{Rule}
use Rattle.lint_document.specs.declared.rule_set.RuleSet.{RuleSet}

-- a rule is in a set: the entry at its place among all rules is true
abbrev pub IsMember : RuleSet → Rule → Type 0
IsMember rules rule = slice_get rules.members (tag_of the_type rule) ≡ Some true
