-- A name that is put into a map.
use Rattle.std.proofs.Common.{◌≡◌, ℕ, ◌<◌, Bool, true, false, cond, List, Option, None, Some, length, refl, ap, ◌∙◌, subst, inl, inr, arith, length-append}
use Rattle.std.specs.Prelude.{nat_lt, bytes_eq, is_some, String, string_bytes, encode_utf8}
use Rattle.std.specs.Option.{option_map}
use Rattle.std.specs.BTreeMap.{BTreeMap, get_by_text, Updates, IsUnchanged}
use Rattle.std.specs.Cmp.Lexicographic.{slice_cmp}
use Rattle.std.specs.Map.{lookup}
use Rattle.std.specs.Ordering.{is_eq, nat_cmp}
use Rattle.std.specs.String.{string_cmp}
use Rattle.std.proofs.lemmas.Bool.{and_from, cases_Bool, lt-ltb}
use Rattle.std.proofs.lemmas.Map.Text.{btree_map_updates_text}
use Rattle.std.proofs.lemmas.Slice.Eq.{bytes_eq-Decides}
use Rattle.std.proofs.lemmas.Str.{length-encode, len_utf8_bounds}
use Rattle.definition_inline.specs.CharacterReference.{Names}
use Rattle.definition_inline.specs.ReferenceRows.{is_name}
use Rattle.markdown_tables.specs.declared.row.Characters.{Characters}
use Rattle.markdown_tables.specs.RowParts.{characters_text, second_text}
use Rattle.markdown_tables.specs.NameTexts.{AreLawful, is_lawful, text_of}

map_cond : {Y : Type 0} (b : Bool) (s : String Y) (o : Option (String Y))
    → option_map string_bytes (cond b (Some s) o) ≡ cond b (Some (string_bytes s)) (option_map string_bytes o)
map_cond true s o = refl
map_cond false s o = refl

-- its text is that of the name, and the others stay
pub put-texts : {Y : Type 0} (old new : BTreeMap (String Y) (String Y)) (name text : String Y) → Updates string_cmp old new name (Some text) → (other : List ℕ)
    → text_of new other ≡ cond (bytes_eq (string_bytes name) other) (Some (string_bytes text)) (text_of old other)
put-texts old new name text updates other =
    ap (option_map string_bytes) (btree_map_updates_text (string_bytes name) old new (Some text) updates other)
    ∙ map_cond (bytes_eq (string_bytes name) other) text (get_by_text old other)

-- so the map stays lawful
lawful_cond : (old : Names) (name text other : List ℕ) → is_lawful other (old other) ≡ true → is_name name ≡ true → 0 < length text
    → is_lawful other (cond (bytes_eq name other) (Some text) (old other)) ≡ true
lawful_cond old name text other was named nonempty =
    elim (cases_Bool (bytes_eq name other)) [
      | inl p ↦
          let same : name ≡ other = (bytes_eq-Decides name other).0 p in
          ap (λ b. is_lawful other (cond b (Some text) (old other))) p
          ∙ and_from (is_name other) (nat_lt 0 (length text)) (subst (λ (n : List ℕ). is_name n ≡ true) same named) (lt-ltb 0 (length text) nonempty)
      | inr p ↦ ap (λ b. is_lawful other (cond b (Some text) (old other))) p ∙ was
    ]

pub put-lawful : {Y : Type 0} (old new : BTreeMap (String Y) (String Y)) (name text : String Y) → AreLawful old → is_name (string_bytes name) ≡ true
    → 0 < length (string_bytes text) → Updates string_cmp old new name (Some text) → AreLawful new
put-lawful old new name text was named nonempty updates other =
    ap (is_lawful other) (put-texts old new name text updates other)
    ∙ lawful_cond (text_of old) (string_bytes name) (string_bytes text) other (was other) named nonempty

-- a map that is unchanged is as lawful as it was
pub kept-lawful : {Y : Type 0} (old new : BTreeMap (String Y) (String Y)) → AreLawful old → IsUnchanged old new → AreLawful new
kept-lawful {Y = Y} old new was same other =
    let tested : List (String Y × String Y) → Bool =
    λ es. is_lawful other (option_map string_bytes (lookup (λ (k : String Y). is_eq (slice_cmp nat_cmp other (string_bytes k))) es)) in
    ap tested same ∙ was other

-- the text of characters isn't empty
pub some_text : (text : List ℕ) (characters : Characters) → text ≡ characters_text characters → 0 < length text
some_text text characters is =
    let first = encode_utf8 characters.first in
    omega (arith, ap length is, length-append first (second_text characters.second), length-encode characters.first, (len_utf8_bounds characters.first).0)

-- a name without an entry has no text
pub no_text : {Y : Type 0} (found : Option (String Y)) → is_some found ≡ false → option_map string_bytes found ≡ None
no_text None h = refl
no_text (Some s) h = cc
