-- A word with its case folded, chunk by chunk: a text, and the bytes after it that are no text.
use Rattle.std.proofs.Common.{◌≡◌, ℕ, false, eqb, List, [], ◌∷◌, ◌++◌, length, drop, encode_utf8, Result, Ok, Err, OnOk, is_ok, if◌then◌else◌, refl, sym, ap}
use Rattle.std.proofs.Common.{ap₂, ◌∙◌, append_assoc, arith}
use Rattle.std.proofs.lemmas.List.{append-nil}
use Rattle.std.proofs.lemmas.Str.{IsUtf8-from_is_utf8, utf8_lossy_chunk, utf8_lossy_last_chunk, utf8_lossy_empty}
use Rattle.std.specs.Str.{IsUtf8, chars, is_utf8}
use Rattle.std.specs.Str.Lossy.{utf8_lossy, utf8_valid_len, utf8_invalid_len, replacement_bytes}
use lib.Utf8.{encode}
use Rattle.caseless.specs.Caseless.{default_case_fold}
use Rattle.caseless.proofs.Computing.{caseless}
use Rattle.definition_inline.specs.LabelMatch.{case_fold, fold_word}
use Rattle.inline_labels.proofs.LabelWords.{case_folded-append}
use Rattle.inline_labels.specs.Chunks.{replacement_of}

replacement_is_text : IsUtf8 replacement_bytes
unfolding is_utf8 chars encode
replacement_is_text = IsUtf8-from_is_utf8 replacement_bytes refl

replacement_folded : case_fold replacement_bytes ≡ replacement_bytes
unfolding caseless chars encode
replacement_folded = refl

replacement_encoded : encode_utf8 0xFFFD ≡ replacement_bytes
unfolding encode
replacement_encoded = refl

-- a chunk: a text, and the bytes after it that are no text; only after the last one there may be none
pub folded_chunk : (bs text no_text rest : List ℕ) → IsUtf8 text → bs ≡ text ++ (no_text ++ rest) → length text ≡ utf8_valid_len bs
    → length no_text ≡ utf8_invalid_len (drop (utf8_valid_len bs) bs) → (length no_text ≡ 0 → length rest ≡ 0)
    → fold_word bs ≡ (case_fold text ++ replacement_of no_text) ++ fold_word rest
folded_chunk bs text [] rest is_text parts first second last =
    ap case_fold (utf8_lossy_last_chunk bs text [] rest parts first refl (last refl))
    ∙ case_folded-append text (utf8_lossy rest) is_text
    ∙ ap (λ t. t ++ fold_word rest) (sym (append-nil (case_fold text)))
folded_chunk bs text (b ∷ no_text) rest is_text parts first second last =
    ap case_fold (utf8_lossy_chunk bs text (b ∷ no_text) rest parts first second (omega arith))
    ∙ case_folded-append text (replacement_bytes ++ utf8_lossy rest) is_text
    ∙ ap (λ t. case_fold text ++ t) (case_folded-append replacement_bytes (utf8_lossy rest) replacement_is_text
    ∙ ap (λ t. t ++ fold_word rest) replacement_folded)
    ∙ sym (append_assoc (case_fold text) replacement_bytes (fold_word rest))

pub folded_end : (bs : List ℕ) → length bs ≡ 0 → fold_word bs ≡ []
unfolding default_case_fold chars
folded_end bs none = ap case_fold (utf8_lossy_empty bs none)

replacement_of-some : (no_text : List ℕ) → eqb (length no_text) 0 ≡ false → replacement_of no_text ≡ replacement_bytes
replacement_of-some [] some = cc
replacement_of-some (b ∷ no_text) some = refl

-- after a text U+FFFD was added, if there was memory
pub chunk_added : {T E : Type 0} (added : Result T E) (old text no_text between new : List ℕ) → between ≡ old ++ case_fold text → eqb (length no_text) 0 ≡ false
    → new ≡ (if is_ok added then between ++ encode_utf8 0xFFFD else between) → OnOk added (new ≡ old ++ (case_fold text ++ replacement_of no_text))
chunk_added (Ok t) old text no_text between new first some second =
    second
    ∙ ap₂ ◌++◌ first (replacement_encoded ∙ sym (replacement_of-some no_text some))
    ∙ append_assoc old (case_fold text) (replacement_of no_text)
chunk_added (Err e) old text no_text between new first some second = tt
