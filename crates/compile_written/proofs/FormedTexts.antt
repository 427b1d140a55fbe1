-- Texts that are told, and bytes that may be no texts.
use Rattle.std.proofs.Common.{◌≡◌, ℕ, Bool, true, false, if◌then◌else◌, List, [], ◌∷◌, ◌++◌, Option, Some, sym, ap, ◌∙◌, refl}
use Rattle.compile_written.proofs.Prelude.{append-nil, Form, formed, is_utf8, is_utf8-from_IsUtf8, IsUtf8, IsUtf8-from_is_utf8, Names, unwrap_or, valid}
use Rattle.compile_written.proofs.Prelude.{written_byte}
use Rattle.std.specs.Fmt.{digits}
use Rattle.compile_written.specs.Strings.{named_text}
use Rattle.compile_written.specs.declared.string.Form.TheVariants.{Plain, Written}

-- ---- the bytes that are told

pub written_tab : written_byte 9 ≡ 38 ∷ 35 ∷ 57 ∷ 59 ∷ []
unfolding digits
written_tab = refl

pub written_feed : written_byte 10 ≡ 38 ∷ 35 ∷ 49 ∷ 48 ∷ 59 ∷ []
unfolding digits
written_feed = refl

pub written_return : written_byte 13 ≡ 38 ∷ 35 ∷ 49 ∷ 51 ∷ 59 ∷ []
unfolding digits
written_return = refl

pub written_space : written_byte 32 ≡ 38 ∷ 35 ∷ 51 ∷ 50 ∷ 59 ∷ []
unfolding digits
written_space = refl

pub written_ampersand : written_byte 38 ≡ 38 ∷ 35 ∷ 51 ∷ 56 ∷ 59 ∷ []
unfolding digits
written_ampersand = refl

pub written_backslash : written_byte 92 ≡ 38 ∷ 35 ∷ 57 ∷ 50 ∷ 59 ∷ []
unfolding digits
written_backslash = refl

-- ---- texts

valid_by : (piece : List ℕ) (b : Bool) → is_utf8 piece ≡ b → b ≡ true → valid piece ≡ piece
valid_by piece true h k = ap (λ (t : Bool). if t then piece else []) h
valid_by piece false h k = absurd (let f : false ≡ true = k in cc)

pub valid_is : (piece : List ℕ) → is_utf8 piece ≡ true → valid piece ≡ piece
valid_is piece h = valid_by piece (is_utf8 piece) refl h

pub text_valid : (piece : List ℕ) → IsUtf8 piece → valid piece ≡ piece
text_valid piece h = valid_is piece (is_utf8-from_IsUtf8 piece h)

pub name_text : (names : Names) (name text : List ℕ) → IsUtf8 name → names name ≡ Some text → named_text names name ≡ text
name_text names name text u h =
    ap (λ (t : Bool). if t then unwrap_or (names name) [] else []) (is_utf8-from_IsUtf8 name u) ∙ ap (λ (o : Option (List ℕ)). unwrap_or o []) h

-- ---- what is no text adds nothing

nothing_added : (form : Form) (old : List ℕ) → old ≡ old ++ formed form []
nothing_added Plain old = sym (append-nil old)
nothing_added Written old = sym (append-nil old)

no_text_by : (form : Form) (old piece : List ℕ) (b : Bool) → (b ≡ true → ⊥) → old ≡ old ++ formed form (if b then piece else [])
no_text_by form old piece true h = absurd (h refl)
no_text_by form old piece false h = nothing_added form old

pub no_valid : (form : Form) (old piece : List ℕ) → (IsUtf8 piece → ⊥) → old ≡ old ++ formed form (valid piece)
no_valid form old piece h = no_text_by form old piece (is_utf8 piece) (λ e. h (IsUtf8-from_is_utf8 piece e))

pub no_named : (names : Names) (form : Form) (old name : List ℕ) → (IsUtf8 name → ⊥) → old ≡ old ++ formed form (named_text names name)
no_named names form old name h = no_text_by form old (unwrap_or (names name) []) (is_utf8 name) (λ e. h (IsUtf8-from_is_utf8 name e))
