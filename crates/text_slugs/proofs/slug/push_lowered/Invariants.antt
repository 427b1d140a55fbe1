use Rattle.std.proofs.Common.{◌≡◌, ◌++◌, string_bytes, encode_utf8_all}
use Rattle.std.specs.Char.Iter.{case_mapping_chars}
use Rattle.std.specs.Char.Unicode.ToLowercase.{to_lowercase}
use Rattle.std.specs.List.{flat_map}
use Rattle.definition_page.specs.Slug.{slug_char}
use Rattle.text_slugs.proofs.Lowered.{ArePacked}
use Rattle.text_slugs.proofs.slug.push_lowered.Given as goal

abbrev pub invariant-loop-small : goal.invariant-loop-small
invariant-loop-small g l = record {
  packed : ArePacked l.small-iterator;
  so_far : string_bytes l.slug ++ encode_utf8_all (flat_map slug_char (case_mapping_chars l.small-iterator))
      ≡ string_bytes l.fn.slug ++ encode_utf8_all (flat_map slug_char (to_lowercase l.fn.character));
}
