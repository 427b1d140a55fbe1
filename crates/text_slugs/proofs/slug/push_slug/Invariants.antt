use Rattle.std.proofs.Common.{◌≡◌, ◌++◌, IsUtf8, string_bytes}
use Rattle.std.specs.Str.Iter.{chars_rest}
use Rattle.definition_page.specs.Slug.{slug_of}
use Rattle.text_slugs.proofs.slug.push_slug.Given as goal

abbrev pub invariant-loop-character : goal.invariant-loop-character
invariant-loop-character g l = record {
  text : IsUtf8 (chars_rest l.character-iterator);
  so_far : string_bytes l.slug ++ slug_of (chars_rest l.character-iterator) ≡ string_bytes l.fn.slug ++ slug_of l.text;
}
