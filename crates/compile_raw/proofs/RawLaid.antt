-- What pieces of raw blocks print.
use Rattle.std.proofs.Common.{◌≡◌, ◌<◌, ◌||◌, ℕ, zero, suc, Bool, true, false, List, [], ◌∷◌, ◌++◌, None, Some, codes, map, refl, sym, ap, ◌∙◌, get_or}
use Rattle.compile_raw.proofs.Prelude.{append-nil, BlockLine, Chunk, code_of, CodePart, CompileOptions, encode, has_any, html_of, lines_behind, part_bytes}
use Rattle.compile_raw.proofs.Prelude.{part_view, Passed, passed, raw_lines, RawPart, repeat, replicate, without_first_end}
use Rattle.std.proofs.lemmas.List.{map-append}
use Rattle.std.proofs.lemmas.List.Concat.{flat_map-append}
use Rattle.definition_text.proofs.CodeBytes.{code_bytes}
use Rattle.definition_text.specs.BlockLines.{spaced_line}
use Rattle.definition_text.specs.Columns.{code_byte}
use Rattle.definition_text.specs.Encode.{encoded_byte}
use Rattle.event_meaning.specs.Raw.{End}
use Rattle.html_leaves.specs.CodeLines.{html_line_bytes}
use Rattle.compile_raw.specs.declared.raw.CodePart.TheVariants as parts

-- ---- chunks

spaces_said : (n : ℕ) → encode (map code_byte (repeat n (codes " "))) ≡ replicate n 32
spaces_said zero = refl
spaces_said (suc n) = ap (λ (x : List ℕ). 32 ∷ x) (spaces_said n)

both_said : (a b : List ℕ) → encode (map code_byte (a ++ b)) ≡ encode (map code_byte a) ++ encode (map code_byte b)
both_said a b = ap encode (map-append code_byte a b) ∙ flat_map-append encoded_byte (map code_byte a) (map code_byte b)

pub chunk_said : (before after : ℕ) (text : List ℕ) → ((k : ℕ) → get_or text k 0 < 256)
    → encode (map code_byte (repeat before (codes " ") ++ text ++ repeat after (codes " "))) ≡ replicate before 32 ++ encode text ++ replicate after 32
chunk_said before after text bytes =
    let front = repeat before (codes " ") in
    let back = repeat after (codes " ") in
    both_said (front ++ text) back
    ∙ ap (λ (x : List ℕ). x ++ encode (map code_byte back))
    (both_said front text
    ∙ ap (λ (x : List ℕ). x ++ encode (map code_byte text)) (spaces_said before)
    ∙ ap (λ (x : List ℕ). replicate before 32 ++ encode x) (code_bytes text bytes))
    ∙ ap (λ (x : List ℕ). (replicate before 32 ++ encode text) ++ x) (spaces_said after)

-- ---- code

lines_by : (silent some line : Bool) (part : CodePart) (later : List RawPart)
    → let p : Passed = record { silent = silent; some = some; line = line } in
    code_of (lines_behind silent (part_view part ++ later)) ≡ part_bytes p part ++ code_of (lines_behind (passed p part).silent later)
lines_by true some line (parts.Chunk before text after) later =
    ap (λ (x : List ℕ). x ++ code_of (raw_lines (without_first_end later)))
    (append-nil (encode (map code_byte (repeat before (codes " ") ++ text.now ++ repeat after (codes " ")))))
lines_by false some line (parts.Chunk before text after) later =
    ap (λ (x : List ℕ). x ++ code_of (raw_lines later))
    (append-nil (encode (map code_byte (repeat before (codes " ") ++ text.now ++ repeat after (codes " ")))))
lines_by true some line (parts.Ending ending) later = refl
lines_by false some line (parts.Ending ending) later = refl
lines_by silent some line parts.Nothing later = refl

-- the lines of a piece and those after it
pub lines_on : (p : Passed) (part : CodePart) (later : List RawPart)
    → code_of (lines_behind p.silent (part_view part ++ later)) ≡ part_bytes p part ++ code_of (lines_behind (passed p part).silent later)
lines_on p part later = lines_by p.silent p.some p.line part later

pub or_true : (b : Bool) → (b || true) ≡ true
or_true true = refl
or_true false = refl

pub or_false : (b : Bool) → (b || false) ≡ b
or_false true = refl
or_false false = refl

-- whether there are some
pub some_on : (p : Passed) (part : CodePart) (later : List RawPart) → ((passed p part).some || has_any later) ≡ (p.some || has_any (part_view part ++ later))
some_on p (parts.Chunk before text after) later = sym (or_true p.some)
some_on p (parts.Ending ending) later = sym (or_true p.some)
some_on p parts.Nothing later = refl

line_by : (silent some line : Bool) (part : CodePart) (later : List RawPart)
    → let p : Passed = record { silent = silent; some = some; line = line } in
    ((passed p part).line || has_any (lines_behind (passed p part).silent later)) ≡ (line || has_any (lines_behind silent (part_view part ++ later)))
line_by true some line (parts.Chunk before text after) later = sym (or_true line)
line_by false some line (parts.Chunk before text after) later = sym (or_true line)
line_by true some line (parts.Ending ending) later = ap (λ (b : Bool). b || has_any (raw_lines later)) (or_false line)
line_by false some line (parts.Ending ending) later = ap (λ (b : Bool). b || has_any (raw_lines later)) (or_true line) ∙ sym (or_true line)
line_by silent some line parts.Nothing later = refl

pub line_on : (p : Passed) (part : CodePart) (later : List RawPart)
    → ((passed p part).line || has_any (lines_behind (passed p part).silent later)) ≡ (p.line || has_any (lines_behind p.silent (part_view part ++ later)))
line_on p part later = line_by p.silent p.some p.line part later

pub none_behind : (silent : Bool) → lines_behind silent [] ≡ []
none_behind true = refl
none_behind false = refl

-- ---- HTML

lines_both : (a b : List RawPart) → raw_lines (a ++ b) ≡ raw_lines a ++ raw_lines b
lines_both [] b = refl
lines_both (Chunk text ∷ a) b = ap (λ (x : List BlockLine). spaced_line text None ∷ x) (lines_both a b)
lines_both (End ending ∷ a) b = ap (λ (x : List BlockLine). spaced_line [] (Some ending) ∷ x) (lines_both a b)

pub html_both : (options : CompileOptions) (a b : List RawPart)
    → html_of options (raw_lines (a ++ b)) ≡ html_of options (raw_lines a) ++ html_of options (raw_lines b)
html_both options a b = ap (html_of options) (lines_both a b) ∙ flat_map-append (html_line_bytes options) (raw_lines a) (raw_lines b)
