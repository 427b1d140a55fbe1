-- Containers that start on a line: a start makes the rest shorter, so as many as the rest has codes are enough.
use Rattle.std.proofs.Common.{◌≡◌, ℕ, zero, suc, ◌+◌, ◌≤◌, ◌<◌, Bool, true, false, ◌&&◌, ◌||◌, not, eqb, leb, [], ◌∷◌, Option, None, Some, refl, ap, length}
use Rattle.std.proofs.Common.{drop, take, arith}
use Rattle.std.specs.Prelude.{IfSome, min}
use Rattle.std.specs.List.{prefix_len}
use Rattle.std.proofs.lemmas.Bool.{cond_both}
use Rattle.std.proofs.lemmas.List.{length-drop}
use Rattle.markdown_options.specs.declared.configuration.Constructs.{Constructs}
use Rattle.markdown_options.specs.declared.beside.Beside.{Beside}
use Rattle.definition_text.specs.Columns.{Rest, bare, indent}
use Rattle.definition_text.specs.Indents.{small_indent}
use Rattle.definition_block.specs.ContainerLine.{ContainerLine}
use Rattle.definition_block.specs.ContainerStart.{ContainerStart}
use Rattle.definition_block.specs.ThematicBreak.{is_break}
use Rattle.definition_block.specs.BlockQuote.{after_byte, after_mark, quote_prefix}
use Rattle.definition_block.specs.ListItem.{Marker, marker_of, is_digit, number_of, bullet, after_number, ordered_marker, marker, gap, is_item, item}
use Rattle.definition_block.specs.ListItem.{item_after}
use Rattle.definition_block.specs.ListItem.{item_start}
use Rattle.definition_block.specs.GfmFootnoteDefinition.{footnote_start}
use Rattle.definition_block.specs.Containers.{quote_or, footnote_or, starts}
use Rattle.definition_block.proofs.GfmFootnoteDefinition.{FineAfter, footnote_fine, footnote_either}
use Rattle.definition_block.specs.Tree.{beside_in, Nil, Inside, Tree, tree, nothing, after, leaf_line, start, new}

-- ---- what starts a container makes the rest shorter

-- the rest that is left, if any, has fewer codes than n
abbrev RestBelow : ℕ → Option Rest → Type 0
RestBelow n o = IfSome o (λ rest. length rest < n)

-- the same of what a quote leaves of a line
abbrev LineBelow : ℕ → Option ContainerLine → Type 0
LineBelow n o = IfSome o (λ line. length line.rest < n)

-- the same of the rest after a marker
abbrev MarkerBelow : ℕ → Option Marker → Type 0
MarkerBelow n o = IfSome o (λ m. length m.rest < n)

-- the same of the rest after what starts a container
abbrev StartedBelow : ℕ → Option ContainerStart → Type 0
StartedBelow n o = IfSome o (λ s. length s.rest < n)

-- a quote
byte_below : (n byte : ℕ) (rest : Rest) → length rest ≤ n → RestBelow n (after_byte byte rest)
byte_below n byte [] le = tt
byte_below n byte (code ∷ codes) le = cond_both (eqb code byte) (Some codes) None (RestBelow n) (λ _. omega (arith, le)) (λ _. tt)

mark_below : (n : ℕ) (o : Option Rest) → RestBelow n o → LineBelow n (after_mark o)
mark_below n None h = tt
mark_below n (Some rest) h = omega (arith, h, length-drop (min 1 (indent rest)) rest)

quote_below : (on : Constructs) (rest : Rest) → LineBelow (length rest) (quote_prefix on rest)
quote_below on rest =
    let n = length rest in
    let after = after_byte 62 (bare rest) in
    cond_both (on.block_quote && small_indent on rest) (after_mark after) None (LineBelow n)
    (λ _. mark_below n after (byte_below n 62 (bare rest) (omega (arith, length-drop (indent rest) rest)))) (λ _. tt)

-- an item
bullet_below : (n : ℕ) (rest : Rest) → length rest ≤ n → MarkerBelow n (bullet rest)
bullet_below n [] le = tt
bullet_below n (code ∷ codes) le =
    cond_both (eqb code 45 || eqb code 43 || eqb code 42) (Some (marker_of code None 1 codes)) None (MarkerBelow n) (λ _. omega (arith, le)) (λ _. tt)

delimiter_below : (n number digits : ℕ) (rest : Rest) → length rest ≤ n → MarkerBelow n (after_number number digits rest)
delimiter_below n number digits [] le = tt
delimiter_below n number digits (code ∷ codes) le =
    cond_both (eqb code 46 || eqb code 41) (Some (marker_of code (Some number) (digits + 1) codes)) None (MarkerBelow n) (λ _. omega (arith, le)) (λ _. tt)

ordered_below : (n digits : ℕ) (rest : Rest) → length rest ≤ n → MarkerBelow n (ordered_marker digits rest)
ordered_below n digits rest le =
    let number = number_of (take digits rest) in
    cond_both (leb digits 9) (after_number number digits (drop digits rest)) None (MarkerBelow n)
    (λ _. delimiter_below n number digits (drop digits rest) (omega (arith, le, length-drop digits rest))) (λ _. tt)

marker_below : (n : ℕ) (rest : Rest) → length rest ≤ n → MarkerBelow n (marker rest)
marker_below n rest le =
    let digits = prefix_len is_digit rest in
    cond_both (eqb digits 0) (bullet rest) (ordered_marker digits rest) (MarkerBelow n) (λ _. bullet_below n rest le) (λ _. ordered_below n digits rest le)

after_marker_below : (n columns : ℕ) (interrupts : Bool) (o : Option Marker) → MarkerBelow n o → StartedBelow n (item_after columns interrupts o)
after_marker_below n columns interrupts None h = tt
after_marker_below n columns interrupts (Some m) h =
    cond_both (is_item interrupts m) (Some (item columns m)) None (StartedBelow n) (λ _. omega (arith, h, length-drop (gap m.rest) m.rest)) (λ _. tt)

item_below : (on : Constructs) (interrupts : Bool) (rest : Rest) → StartedBelow (length rest) (item_start on interrupts rest)
item_below on interrupts rest =
    let n = length rest in
    let found = marker (bare rest) in
    cond_both (on.list_item && small_indent on rest && not (is_break on rest)) (item_after (indent rest) interrupts found) None (StartedBelow n)
    (λ _. after_marker_below n (indent rest) interrupts found (marker_below n (bare rest) (omega (arith, length-drop (indent rest) rest)))) (λ _. tt)

-- either
either_below : (n : ℕ) (other : Option ContainerStart) (o : Option ContainerLine) → StartedBelow n other → LineBelow n o → StartedBelow n (quote_or other o)
either_below n other None h k = h
either_below n other (Some line) h k = k

below_dropped : (n k : ℕ) (rest : Rest) → length rest < n → length (drop k rest) < n
below_dropped n k rest h = omega (arith, h, length-drop k rest)

below_after : (n : ℕ) (rest : Rest) → length rest ≤ n → FineAfter (λ r. length r < n) (below_dropped n) rest
below_after n [] le = tt
below_after n (c ∷ cs) le = omega (arith, le)

starts_below : (on : Constructs) (interrupts : Bool) (rest : Rest) → StartedBelow (length rest) (starts on interrupts rest)
starts_below on interrupts rest =
    let n = length rest in
    let item = item_start on interrupts rest in
    let footnote = footnote_start on rest in
    either_below n (footnote_or item footnote) (quote_prefix on rest)
    (footnote_either (StartedBelow n) item footnote (item_below on interrupts rest)
    (footnote_fine (λ r. length r < n) (below_dropped n) on rest (below_after n (bare rest) (omega (arith, length-drop (indent rest) rest)))))
    (quote_below on rest)

-- ---- as many as the rest has codes are enough

-- a container with what started in it
abbrev started_tree : Constructs → ContainerStart → Tree → Tree
started_tree on s t = after on nothing (tree Nil (Inside s.container t.done t.now))

-- nothing starts where no code is left
start-no_code : (on : Constructs) (n : ℕ) (o : Option ContainerStart) (other : Tree) (more : ContainerStart → Tree) → n ≤ 0 → StartedBelow n o
    → start on o nothing other more ≡ other
start-no_code on n None other more le h = refl
start-no_code on n (Some s) other more le h = absurd (omega (arith, le, h))

-- only shorter rests matter
start-same : (on : Constructs) (n : ℕ) (o : Option ContainerStart) (other : Tree) (f g : ContainerStart → Tree) → StartedBelow n o
    → ((s : ContainerStart) → length s.rest < n → f s ≡ g s) → start on o nothing other f ≡ start on o nothing other g
start-same on n None other f g h same = refl
start-same on n (Some s) other f g h same = ap (started_tree on s) (same s h)

-- where as many may start as the rest has codes, one more makes no difference
pub new-suc : (on : Constructs) (beside : Beside) (most : ℕ) (rest : Rest) → length rest ≤ most
    → new (suc most) on true nothing beside rest ≡ new most on true nothing beside rest
new-suc on beside zero rest le =
    start-no_code on (length rest) (starts on false rest) (leaf_line on nothing rest beside) _ le (starts_below on false rest)
new-suc on beside (suc most) rest le =
    start-same on (length rest) (starts on false rest) (leaf_line on nothing rest beside)
    (λ s. new (suc most) on true nothing (beside_in s.before beside) s.rest) (λ s. new most on true nothing (beside_in s.before beside) s.rest)
    (starts_below on false rest) (λ s lt. new-suc on (beside_in s.before beside) most s.rest (omega (arith, le, lt)))
