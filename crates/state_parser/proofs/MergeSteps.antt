-- One step of the loops that merge.
use Rattle.std.proofs.Common.{◌≡◌, ◌∙◌, ℕ, zero, suc, ◌+◌, ◌<◌, ◌≤◌, ◌-◌, Bool, false, ◌&&◌, if◌then◌else◌, List, [], ◌++◌, length, slice_get}
use Rattle.std.proofs.Common.{refl, sym, ap, arith}
use Rattle.std.specs.List.{fold}
use Rattle.std.proofs.lemmas.List.Sums.{fold-append}
use Rattle.engine_events.specs.declared.event.Event.{Event}
use Rattle.engine_events.specs.declared.event.Kind.TheVariants.{Enter, Exit}
use Rattle.engine_events.specs.declared.place.Point.{Point}
use Rattle.state_reader.specs.declared.span.Span.{Span}
use Rattle.state_parser.specs.Events.{is_white_at}
use Rattle.state_parser.specs.Merge.{block_start, event_steps, flow_end, flow_part, flow_steps, is_indented, is_of_line, line_end, span_steps, steps, steps_of}
use Rattle.state_parser.specs.Merged.{Merging, left, one_left, pushed, white_from}

pub white_step : (events : List Event) (n : ℕ) → 2 ≤ n
    → white_from events n ≡ (if is_white_at events Enter (n - 2) && is_white_at events Exit (n - 1) then white_from events (n - 2) else n)
white_step events zero h = absurd (omega arith)
white_step events (suc zero) h = absurd (omega arith)
white_step events (suc (suc n)) h =
    let found = λ (i j : ℕ). if is_white_at events Enter i && is_white_at events Exit j then white_from events i else suc (suc n) in
    let first : suc (suc n) - 2 ≡ n = omega arith in
    let second : suc (suc n) - 1 ≡ suc n = omega arith in
    sym (ap (λ (i : ℕ). found i (suc (suc n) - 1)) first ∙ ap (found n) second)

pub white_short : (events : List Event) (n : ℕ) → n < 2 → white_from events n ≡ n
white_short events zero h = refl
white_short events (suc zero) h = refl
white_short events (suc (suc n)) h = absurd (omega arith)

pub left_step : (n : ℕ) (p : Point) (m : Merging) → 0 < n → left n p m ≡ left (n - 1) p (one_left p m)
left_step zero p m h = absurd (omega arith)
left_step (suc n) p m h = let here : suc n - 1 ≡ n = omega arith in ap (λ (k : ℕ). left k p (one_left p m)) (sym here)

less : (a b : ℕ) → a < b → b - a ≡ suc (b - (a + 1))
less a b h = omega arith

pub line_step : (flow : List Event) (end : Point) (i : ℕ) → i < length flow
    → line_end flow end (length flow - i) i ≡ (if is_of_line flow end i then line_end flow end (length flow - (i + 1)) (i + 1) else i)
line_step flow end i h = ap (λ (n : ℕ). line_end flow end n i) (less i (length flow) h)

pub line_past : (flow : List Event) (end : Point) (i : ℕ) → length flow ≤ i → line_end flow end (length flow - i) i ≡ i
line_past flow end i h = let none : length flow - i ≡ 0 = omega arith in ap (λ (n : ℕ). line_end flow end n i) none

pub flow_step : (flow : List Event) (m : Merging) (i : ℕ) → is_indented flow i ≡ false
    → fold pushed m (flow_steps flow i) ≡ fold pushed (fold pushed m (steps_of (slice_get flow i))) (steps_of (block_start flow i))
flow_step flow m i h = let all = steps_of (slice_get flow i) ++ steps_of (block_start flow i) in
    ap (λ (t : Bool). fold pushed m (if t then [] else all)) h ∙ fold-append pushed m (steps_of (slice_get flow i)) (steps_of (block_start flow i))

pub part_step : (flow : List Event) (m : Merging) (i to : ℕ) → i < to
    → fold pushed m (flow_part flow (to - i) i) ≡ fold pushed (fold pushed m (flow_steps flow i)) (flow_part flow (to - (i + 1)) (i + 1))
part_step flow m i to h =
    ap (λ (n : ℕ). fold pushed m (flow_part flow n i)) (less i to h) ∙ fold-append pushed m (flow_steps flow i) (flow_part flow (to - (i + 1)) (i + 1))

pub all_step : (document flow : List Event) (spans : List Span) (last : List ℕ) (m : Merging) (at span next : ℕ) → at < length document
    → (let all = steps document flow spans last in
    fold pushed m (all (length document - at) at span next)
    ≡ fold pushed (fold pushed (fold pushed m (span_steps document spans last span at)) (event_steps document flow next at))
    (all (length document - (at + 1)) (at + 1) (span + length (span_steps document spans last span at)) (flow_end document flow next at)))
all_step document flow spans last m at span next h =
    let begins = span_steps document spans last span at in
    let adds = event_steps document flow next at in
    let rest = steps document flow spans last (length document - (at + 1)) (at + 1) (span + length begins) (flow_end document flow next at) in
    ap (λ (n : ℕ). fold pushed m (steps document flow spans last n at span next)) (less at (length document) h)
    ∙ (fold-append pushed m begins (adds ++ rest) ∙ fold-append pushed (fold pushed m begins) adds rest)
