-- The names of rows that were read are lawful.
use Rattle.std.proofs.Common.{◌≡◌, ℕ, true, List, Option, None, Some, length, refl, subst}
use Rattle.std.specs.Prelude.{nat_lt, String, string_bytes}
use Rattle.std.specs.Option.{option_map, option_or}
use Rattle.std.specs.Str.{IsUtf8}
use Rattle.std.specs.BTreeMap.{get_by_text}
use Rattle.std.proofs.lemmas.Bool.{and_parts, ltb-true}
use Rattle.std.proofs.lemmas.Str.{IsUtf8-string_bytes}
use Rattle.definition_inline.specs.BuiltinReferences.{builtin_names}
use Rattle.inline_references.specs.LawfulRows.{IsLawful, builtin_is_lawful, name_is_lawful}
use Rattle.definition_inline.specs.ReferenceRows.{is_name}
use Rattle.markdown_tables.specs.declared.rows.Rows.{Rows}
use Rattle.markdown_tables.specs.NameTexts.{is_lawful}
use Rattle.markdown_tables.specs.Rows.{names_of, texts_of}

-- a name of the caller's or a built-in one
either : (own : Option (List ℕ)) (name text : List ℕ) → is_lawful name own ≡ true → ((t : List ℕ) → own ≡ Some t → IsUtf8 t)
    → option_or own (builtin_names name) ≡ Some text → IsLawful name text
either None name text lawful utf8 h = builtin_is_lawful name text h
either (Some t) name text lawful utf8 h =
    let is : t ≡ text = cc in
    let parts = and_parts (is_name name) (nat_lt 0 (length t)) lawful in
    subst (λ (x : List ℕ). IsLawful name x) is (record {
      named = name_is_lawful name parts.0;
      nonempty = ltb-true 0 (length t) parts.1;
      utf8 = utf8 t refl;
    })

string_utf8 : {Y : Type 0} (found : Option (String Y)) (text : List ℕ) → option_map string_bytes found ≡ Some text → IsUtf8 text
string_utf8 None text h = cc
string_utf8 (Some s) text h = let is : string_bytes s ≡ text = cc in subst IsUtf8 is (IsUtf8-string_bytes s)

pub names_are_lawful : {Y : Type 0} (read : Rows Y) (name text : List ℕ) → names_of read name ≡ Some text → IsLawful name text
names_are_lawful read name text h =
    either (texts_of read name) name text (read.lawful name) (string_utf8 (get_by_text read.texts name)) h
