use Rattle.std.proofs.Common.{◌≡◌, ◌++◌, drop, map, string_bytes}
use Rattle.std.specs.List.{flat_map}
use Rattle.definition_page.specs.Tags.{attribute_bytes}
use Rattle.html_sanitizer.specs.Attributes.{attributes_of, named_attributes, read_attribute}
use Rattle.html_safe_page.specs.Views.{names_of}
use Rattle.html_sanitizer.proofs.attributes.push_listed.Given as goal

-- what was printed, and what the names that are left print, is what all print
abbrev pub invariant-loop-name : goal.invariant-loop-name
invariant-loop-name g l =
    string_bytes l.out
    ++ flat_map attribute_bytes (named_attributes (names_of (drop l.name-index l.names))
    (map (read_attribute (g.T.Tables.reference_of l.tables)) (attributes_of l.written)))
    ≡ string_bytes l.fn.out
    ++ flat_map attribute_bytes (named_attributes (names_of l.names) (map (read_attribute (g.T.Tables.reference_of l.tables)) (attributes_of l.written)))
