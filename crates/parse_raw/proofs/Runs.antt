-- Runs of one byte in the breaks and fences of raw blocks.
use Rattle.std.proofs.Common.{◌≡◌, ℕ, ◌+◌, ◌≤◌, ◌<◌, Bool, true, false, ◌&&◌, ◌||◌, List, [], ◌∷◌, eqb, inl, inr, refl, sym, ap, ap₂, ◌∙◌}
use Rattle.std.proofs.Common.{drop, take, get_or, length, arith, replicate}
use Rattle.parse_raw.proofs.Prelude.{after_run, and_parts, AreNames, bare, bytes_of, cases_Bool, cond-true, Constructs, eqb-true, false≢true, Fence}
use Rattle.parse_raw.proofs.Prelude.{FenceNames, indent, is_token, is_white, list_all, Name, nat_tests, prefix_len-le-length, prefix_len_passes, Rest, run}
use Rattle.parse_raw.proofs.Prelude.{◌==◌}
use Rattle.std.specs.Prelude.{codes, leb}
use Rattle.std.proofs.lemmas.Bool.{leb-true, or_cases}
use Rattle.std.proofs.lemmas.List.{length-take-le}
use Rattle.engine_events.specs.declared.event.Name.TheVariants as n
use Rattle.definition_text.specs.Indents.{small_indent}
use Rattle.definition_text.specs.Runs.{is_run as ends_run}
use Rattle.definition_block.specs.CodeFenced.{is_fence_end}
use Rattle.definition_block.specs.ThematicBreak.{is_break, is_break_by, is_break_marker, is_break_text}
use Rattle.event_tokens.specs.Tokens.{fits, is_among, Run}
use Rattle.parse_lines.proofs.Runs.{run_fits}
use Rattle.parse_raw.specs.Bytes.{AreBreak, AreClosing, AreMetadataFence, break_marks, fence_marks}
use Rattle.parse_raw.specs.Tokens.{BeginsDark}
use Rattle.parse_raw.proofs.Bytes.{all_drop}
use Rattle.parse_raw.proofs.Prelude.{all_prefix}

-- ---- thematic breaks

break_among : (byte : ℕ) → is_break_marker byte ≡ true → is_among break_marks byte ≡ true
break_among byte is = grind (arith, nat_tests, is)

break_dark : (byte : ℕ) → is_break_marker byte ≡ true → is_white byte ≡ false
break_dark byte is = grind (arith, nat_tests, is)

pub record IsBreakOf (bytes : List ℕ) : Type 0 where
  pub marker : ℕ
  pub are : AreBreak marker bytes
  pub dark : BeginsDark bytes

break_bytes : (bytes : List ℕ) → is_break_text bytes ≡ true → IsBreakOf bytes
break_bytes [] is = absurd (false≢true is)
break_bytes (b ∷ bs) is =
    let parts = and_parts (is_break_marker b) (is_break_by b (b ∷ bs)) is in
    let more = and_parts (list_all (λ (c : ℕ). (c == b) || is_white c) (b ∷ bs)) _ parts.1 in
    record { marker = b; are = (break_among b parts.0, more.0); dark = break_dark b parts.0 }

pub break_of : (on : Constructs) (rest : Rest) → is_break on rest ≡ true → IsBreakOf (bytes_of (bare rest))
break_of on rest is =
    break_bytes (bytes_of (bare rest)) (and_parts (on.thematic_break && small_indent on rest) (is_break_text (bytes_of (bare rest))) is).1

pub break_drop : (marker count : ℕ) (bytes : List ℕ) → AreBreak marker bytes → AreBreak marker (drop count bytes)
break_drop marker count bytes are = (are.0, all_drop (λ (b : ℕ). (b == marker) || is_white b) count bytes are.1)

white_first : (b : ℕ) (bs : List ℕ) → is_white b ≡ true → indent (b ∷ bs) ≡ 0 → ⊥
white_first b bs white none = let some : indent (b ∷ bs) ≡ 1 + indent bs = cond-true (is_white b) _ _ white in omega (arith, some, none)

-- where no white space is first
pub part_fits : (marker first size : ℕ) (bytes : List ℕ) → 0 < size → AreBreak marker bytes → indent bytes ≡ 0 → first ≡ get_or bytes 0 0
    → size ≡ run first bytes → fits (Run break_marks) (take size bytes) ≡ true
part_fits marker first size [] some are none is sized = absurd (omega (arith, some, sized))
part_fits marker first size (b ∷ bs) some are none is sized =
    elim (cases_Bool (is_white b)) [
      | inl white ↦ absurd (white_first b bs white none)
      | inr dark ↦
          let one = (and_parts ((b == marker) || is_white b) (list_all (λ (c : ℕ). (c == marker) || is_white c) bs) are.1).0 in
          let same : (b == marker) ≡ true = grind (arith, nat_tests, one, dark) in
          let among : is_among break_marks first ≡ true = ap (is_among break_marks) (is ∙ eqb-true b marker same) ∙ are.0 in
          run_fits break_marks first (b ∷ bs) size among some (omega (arith, sized))
    ]

-- ---- fences

pub sequence_fits : (fence : FenceNames) (math : Bool) (bytes : List ℕ) → AreNames math fence → fits (Run (fence_marks math)) bytes ≡ true
    → is_token fence.sequence bytes ≡ true
sequence_fits fence true bytes are fit = ap (λ (x : Name). is_token x bytes) are.sequence ∙ fit
sequence_fits fence false bytes are fit = ap (λ (x : Name). is_token x bytes) are.sequence ∙ fit

first_of_run : (byte : ℕ) (bytes : List ℕ) → 0 < run byte bytes → get_or bytes 0 0 ≡ byte
first_of_run byte bytes some = eqb-true (get_or bytes 0 0) byte (prefix_len_passes (λ (b : ℕ). eqb b byte) bytes 0 0 some)

-- the line that closes a fence
pub closing_of : (on : Constructs) (math : Bool) (fence : Fence) (rest : Rest) → is_among (fence_marks math) fence.byte ≡ true → 0 < fence.run
    → is_fence_end on fence rest ≡ true → AreClosing math (bytes_of (bare rest))
closing_of on math fence rest among some is =
    let bytes = bytes_of (bare rest) in
    let ends = (and_parts (small_indent on rest) (ends_run fence.run fence.byte bytes) is).1 in
    let parts = and_parts (leb fence.run (run fence.byte bytes)) (list_all is_white (after_run fence.byte bytes)) ends in
    let least = leb-true fence.run (run fence.byte bytes) parts.0 in
    let first = first_of_run fence.byte bytes (omega (arith, least, some)) in (
      ap (is_among (fence_marks math)) first ∙ among,
      ap (λ (b : ℕ). list_all is_white (after_run b bytes)) first ∙ parts.1,
    )

-- ---- frontmatter

pub metadata_size : (bytes : List ℕ) → AreMetadataFence bytes → 3 ≤ length bytes
metadata_size bytes are =
    let parts = and_parts (eqb (run are.0 bytes) 3) (list_all is_white (after_run are.0 bytes)) are.2 in
    let three = eqb-true (run are.0 bytes) 3 parts.0 in
    omega (arith, three, prefix_len-le-length (λ (b : ℕ). eqb b are.0) bytes)

-- three hyphens, or three plus signs
three_fit : (byte : ℕ) (xs : List ℕ) → is_among (codes "-+") byte ≡ true → length xs ≡ 3 → list_all (λ b. b == byte) xs ≡ true
    → is_token n.FrontmatterSequence xs ≡ true
three_fit byte xs among three all =
    let same : xs ≡ replicate 3 byte = all_same byte xs all ∙ ap (λ (k : ℕ). replicate k byte) three in
    elim (or_cases (byte == 45) (is_among (codes "+") byte) among) [
      | inl is ↦ ap (is_token n.FrontmatterSequence) (same ∙ ap (replicate 3) (eqb-true byte 45 is))
      | inr is ↦
          let plus : (byte == 43) ≡ true = grind (arith, nat_tests, is) in
          ap (is_token n.FrontmatterSequence) (same ∙ ap (replicate 3) (eqb-true byte 43 plus))
    ]
  where
    all_same : (byte : ℕ) (xs : List ℕ) → list_all (λ b. b == byte) xs ≡ true → xs ≡ replicate (length xs) byte
    all_same byte [] all = refl
    all_same byte (x ∷ xs) all =
        let parts = and_parts (x == byte) (list_all (λ b. b == byte) xs) all in
        ap₂ (λ (y : ℕ) (ys : List ℕ). y ∷ ys) (eqb-true x byte parts.0) (all_same byte xs parts.1)

-- its sequence, and what follows it
pub metadata_fits : (bytes : List ℕ) → AreMetadataFence bytes → (is_token n.FrontmatterSequence (take 3 bytes) ≡ true) × (list_all is_white (drop 3 bytes) ≡ true)
metadata_fits bytes are =
    let parts = and_parts (eqb (run are.0 bytes) 3) (list_all is_white (after_run are.0 bytes)) are.2 in
    let three : run are.0 bytes ≡ 3 = eqb-true (run are.0 bytes) 3 parts.0 in (
      three_fit are.0 (take 3 bytes) are.1 (length-take-le 3 bytes (metadata_size bytes are))
          (all_prefix (λ (b : ℕ). b == are.0) 3 bytes (omega (arith, three))),
      ap (λ (k : ℕ). list_all is_white (drop k bytes)) (sym three) ∙ parts.1,
    )
