use Rattle.std.proofs.Common.{◌≡◌, drop}
use Rattle.html_sanitizer.specs.Attributes.{attributes_of, first_value}
use Rattle.html_sanitizer.proofs.attributes.first_of.Given as goal

-- the attributes that are left have the answer
abbrev pub invariant-loop-attribute : goal.invariant-loop-attribute
invariant-loop-attribute l = first_value l.name (attributes_of (drop l.attribute-index l.written)) ≡ first_value l.name (attributes_of l.written)
