-- Containers that start on a line.
use Rattle.std.proofs.Common.{◌≡◌, ℕ, zero, suc, ◌+◌, ◌≤◌, ◌<◌, Bool, true, false, if◌then◌else◌, ◌&&◌, ◌||◌, ◌==◌, not, leb, List, [], ◌∷◌, Option, None, Some}
use Rattle.std.proofs.Common.{refl, sym, ap, ◌∙◌, subst, length, drop, take, arith}
use Rattle.std.proofs.lemmas.List.{length-drop}
use Rattle.std.specs.Prelude.{min}
use Rattle.std.specs.List.{prefix_len}
use Rattle.block_parser.proofs.Prelude.{after, bare, Beside, beside_in, Blocks, choose_if, closed_nothing, Constructs, Container, ContainerLine, has_text}
use Rattle.block_parser.proofs.Prelude.{indent, Inside, is_break, join, join-nil, leaf_line, level, Level, new, new_inside, Nil, nothing, Opening, Rest}
use Rattle.block_parser.proofs.Prelude.{small_indent, spine_after, spine_at, starts, tree, Tree}
use Rattle.definition_block.specs.ContainerStart.{ContainerStart}
use Rattle.definition_block.specs.BlockQuote.{after_byte, after_mark, quote_prefix}
use Rattle.definition_block.specs.ListItem.{Marker, marker_of, is_digit, number_of, bullet, after_number, ordered_marker, marker, gap, is_item, item}
use Rattle.definition_block.specs.ListItem.{item_after}
use Rattle.definition_block.specs.ListItem.{item_start}
use Rattle.definition_text.specs.Content.{Part, may_escape, closed_by}
use Rattle.definition_inline.specs.Label.{ends_label, label_end}
use Rattle.definition_block.specs.GfmFootnoteDefinition.{is_footnote_label, label_before, with_colon, after_open, after_bracket, footnote_mark, footnote_of}
use Rattle.definition_block.specs.GfmFootnoteDefinition.{footnote_start}
use Rattle.definition_block.specs.Containers.{quote_or, footnote_or}
use Rattle.definition_block.specs.Tree.{start}

-- ---- what starts a container makes the rest shorter

abbrev RestShorter : ℕ → Option Rest → Type 0
RestShorter n None = Unit {0}
RestShorter n (Some rest) = length rest < n

abbrev LineShorter : ℕ → Option ContainerLine → Type 0
LineShorter n None = Unit {0}
LineShorter n (Some line) = length line.rest < n

abbrev MarkerShorter : ℕ → Option Marker → Type 0
MarkerShorter n None = Unit {0}
MarkerShorter n (Some m) = length m.rest < n

abbrev Shorter : ℕ → Option ContainerStart → Type 0
Shorter n None = Unit {0}
Shorter n (Some s) = length s.rest < n

abbrev RestWithin : ℕ → Option Rest → Type 0
RestWithin n None = Unit {0}
RestWithin n (Some rest) = length rest ≤ n

abbrev PartWithin : ℕ → Option Part → Type 0
PartWithin n None = Unit {0}
PartWithin n (Some part) = length part.rest ≤ n

abbrev PartShorter : ℕ → Option Part → Type 0
PartShorter n None = Unit {0}
PartShorter n (Some part) = length part.rest < n

part-within : (n m : ℕ) (o : Option Part) → m < n → PartWithin m o → PartShorter n o
part-within n m None lt h = tt
part-within n m (Some part) lt h = omega (arith, lt, h)

bare-shorter : (rest : Rest) → length (bare rest) ≤ length rest
bare-shorter rest = omega (arith, length-drop (indent rest) rest)

byte-shorter : (n byte : ℕ) (rest : Rest) → length rest ≤ n → RestShorter n (after_byte byte rest)
byte-shorter n byte [] le = tt
byte-shorter n byte (code ∷ codes) le = choose_if (RestShorter n) (code == byte) (Some codes) None (λ h. omega (arith, le)) (λ h. tt)

mark-shorter : (n : ℕ) (o : Option Rest) → RestShorter n o → LineShorter n (after_mark o)
mark-shorter n None h = h
mark-shorter n (Some rest) h = omega (arith, h, length-drop (min 1 (indent rest)) rest)

quote-shorter : (on : Constructs) (rest : Rest) → LineShorter (length rest) (quote_prefix on rest)
quote-shorter on rest =
    choose_if (LineShorter (length rest)) (on.block_quote && small_indent on rest) (after_mark (after_byte 62 (bare rest))) None
    (λ h. mark-shorter (length rest) (after_byte 62 (bare rest)) (byte-shorter (length rest) 62 (bare rest) (bare-shorter rest))) (λ h. tt)

bullet-shorter : (n : ℕ) (rest : Rest) → length rest ≤ n → MarkerShorter n (bullet rest)
bullet-shorter n [] le = tt
bullet-shorter n (code ∷ codes) le =
    choose_if (MarkerShorter n) ((code == 45) || (code == 43) || (code == 42)) (Some (marker_of code None 1 codes)) None (λ h. omega (arith, le)) (λ h. tt)

delimiter-shorter : (n number digits : ℕ) (rest : Rest) → length rest ≤ n → MarkerShorter n (after_number number digits rest)
delimiter-shorter n number digits [] le = tt
delimiter-shorter n number digits (code ∷ codes) le =
    choose_if (MarkerShorter n) ((code == 46) || (code == 41)) (Some (marker_of code (Some number) (digits + 1) codes)) None (λ h. omega (arith, le)) (λ h. tt)

marker-shorter : (n : ℕ) (rest : Rest) → length rest ≤ n → MarkerShorter n (marker rest)
marker-shorter n rest le =
    let digits = prefix_len is_digit rest in
    choose_if (MarkerShorter n) (digits == 0) (bullet rest) (ordered_marker digits rest) (λ h. bullet-shorter n rest le)
    (λ h. choose_if (MarkerShorter n) (leb digits 9) (after_number (number_of (take digits rest)) digits (drop digits rest)) None
    (λ k. delimiter-shorter n (number_of (take digits rest)) digits (drop digits rest) (omega (arith, le, length-drop digits rest))) (λ k. tt))

item-shorter : (n columns : ℕ) (interrupts : Bool) (o : Option Marker) → MarkerShorter n o → Shorter n (item_after columns interrupts o)
item-shorter n columns interrupts None h = tt
item-shorter n columns interrupts (Some m) h =
    choose_if (Shorter n) (is_item interrupts m) (Some (item columns m)) None (λ k. omega (arith, h, length-drop (gap m.rest) m.rest)) (λ k. tt)

item_start-shorter : (on : Constructs) (interrupts : Bool) (rest : Rest) → Shorter (length rest) (item_start on interrupts rest)
item_start-shorter on interrupts rest =
    choose_if (Shorter (length rest)) (on.list_item && small_indent on rest && not (is_break on rest))
    (item_after (indent rest) interrupts (marker (bare rest))) None
    (λ h. item-shorter (length rest) (indent rest) interrupts (marker (bare rest)) (marker-shorter (length rest) (bare rest) (bare-shorter rest))) (λ h. tt)

either-shorter : (n : ℕ) (other : Option ContainerStart) (o : Option ContainerLine) → Shorter n other → LineShorter n o → Shorter n (quote_or other o)
either-shorter n other None h k = h
either-shorter n other (Some line) h k = k

end-shorter : (n : ℕ) (escaped : Bool) (rest : Rest) → length rest ≤ n → RestWithin n (label_end escaped rest)
end-shorter n escaped [] le = tt
end-shorter n escaped (c ∷ cs) le =
    choose_if (RestWithin n) (ends_label escaped c) (if c == 93 then Some (c ∷ cs) else None) (label_end (may_escape escaped c) cs)
    (λ h. choose_if (RestWithin n) (c == 93) (Some (c ∷ cs)) None (λ k. le) (λ k. tt))
    (λ h. end-shorter n (may_escape escaped c) cs (omega (arith, le)))

closed-shorter : (n : ℕ) (rest : Rest) (o : Option Rest) → RestWithin n o → PartWithin n (closed_by rest o)
closed-shorter n rest None h = tt
closed-shorter n rest (Some after) h = omega (arith, h, length-drop 1 after)

label-shorter : (n : ℕ) (label : List ℕ) (o : Option Rest) → RestShorter n o → PartWithin n (label_before label o)
label-shorter n label None h = tt
label-shorter n label (Some rest) h = omega (arith, h)

colon-shorter : (n : ℕ) (o : Option Part) → PartWithin n o → PartWithin n (with_colon o)
colon-shorter n None h = tt
colon-shorter n (Some label) h =
    choose_if (PartWithin n) (is_footnote_label label.text) (label_before label.text (after_byte 58 label.rest)) None
    (λ k. label-shorter n label.text (after_byte 58 label.rest) (byte-shorter n 58 label.rest h)) (λ k. tt)

open-shorter : (n : ℕ) (o : Option Rest) → RestShorter n o → PartShorter n (after_open o)
open-shorter n None h = tt
open-shorter n (Some rest) h = part-within n (length rest) (after_open (Some rest)) h
    (colon-shorter (length rest) (closed_by rest (label_end false rest)) (closed-shorter (length rest) rest (label_end false rest)
    (end-shorter (length rest) false rest (omega arith))))

bracket-shorter : (n : ℕ) (o : Option Rest) → RestShorter n o → PartShorter n (after_bracket o)
bracket-shorter n None h = tt
bracket-shorter n (Some rest) h = open-shorter n (after_byte 94 rest) (byte-shorter n 94 rest (omega (arith, h)))

footnote_of-shorter : (n : ℕ) (o : Option Part) → PartShorter n o → Shorter n (footnote_of o)
footnote_of-shorter n None h = tt
footnote_of-shorter n (Some mark) h = omega (arith, h, bare-shorter mark.rest)

footnote-shorter : (on : Constructs) (rest : Rest) → Shorter (length rest) (footnote_start on rest)
footnote-shorter on rest =
    choose_if (Shorter (length rest)) (on.gfm_footnote_definition && small_indent on rest) (footnote_of (footnote_mark (bare rest))) None
    (λ h. footnote_of-shorter (length rest) (footnote_mark (bare rest)) (bracket-shorter (length rest) (after_byte 91 (bare rest))
    (byte-shorter (length rest) 91 (bare rest) (bare-shorter rest))))
    (λ h. tt)

footnote_or-shorter : (n : ℕ) (other o : Option ContainerStart) → Shorter n other → Shorter n o → Shorter n (footnote_or other o)
footnote_or-shorter n other None h k = h
footnote_or-shorter n other (Some footnote) h k = k

starts-shorter : (on : Constructs) (interrupts : Bool) (rest : Rest) → Shorter (length rest) (starts on interrupts rest)
starts-shorter on interrupts rest =
    either-shorter (length rest) (footnote_or (item_start on interrupts rest) (footnote_start on rest)) (quote_prefix on rest)
    (footnote_or-shorter (length rest) (item_start on interrupts rest) (footnote_start on rest) (item_start-shorter on interrupts rest)
    (footnote-shorter on rest))
    (quote-shorter on rest)

pub start-shorter : (on : Constructs) (interrupts : Bool) (rest : Rest) (s : ContainerStart) → starts on interrupts rest ≡ Some s → length s.rest < length rest
start-shorter on interrupts rest s is = subst (Shorter (length rest)) is (starts-shorter on interrupts rest)

starts-none : (on : Constructs) (interrupts : Bool) (o : Option ContainerStart) → Shorter 0 o → o ≡ None
starts-none on interrupts None h = refl
starts-none on interrupts (Some s) h = absurd (omega (arith, h))

-- ---- enough containers may start

module _ (on : Constructs) where
  start-same : (n : ℕ) (o : Option ContainerStart) (away : Opening) (other : Tree) (f g : ContainerStart → Tree) → Shorter n o
      → ((s : ContainerStart) → length s.rest < n → f s ≡ g s) → start on o away other f ≡ start on o away other g
  start-same n None away other f g h same = refl
  start-same n (Some s) away other f g h same = ap (λ (t : Tree). after on away (tree Nil (Inside s.container t.done t.now))) (same s h)

  -- what starts in the container that starts on a rest
  abbrev inner_new : ℕ → Beside → ContainerStart → Tree
  inner_new n beside s = new n on true nothing (beside_in s.before beside) s.rest

  new-same : (m n : ℕ) (all : Bool) (away : Opening) (beside : Beside) (rest : Rest) → length rest ≤ m → length rest ≤ n
      → new m on all away beside rest ≡ new n on all away beside rest
  new-same zero zero all away beside rest h k = refl
  new-same zero (suc n) all away beside [] h k =
      sym (ap (λ o. start on o away (leaf_line on away [] beside) (inner_new n beside))
      (starts-none on (all && has_text away) _ (starts-shorter on (all && has_text away) [])))
  new-same zero (suc n) all away beside (code ∷ codes) h k = absurd (omega (arith, h))
  new-same (suc m) zero all away beside [] h k =
      ap (λ o. start on o away (leaf_line on away [] beside) (inner_new m beside))
      (starts-none on (all && has_text away) _ (starts-shorter on (all && has_text away) []))
  new-same (suc m) zero all away beside (code ∷ codes) h k = absurd (omega (arith, k))
  new-same (suc m) (suc n) all away beside rest h k =
      start-same (length rest) (starts on (all && has_text away) rest) away (leaf_line on away rest beside) (inner_new m beside) (inner_new n beside)
      (starts-shorter on (all && has_text away) rest)
      (λ s lt. new-same m n true nothing (beside_in s.before beside) s.rest (omega (arith, h, lt)) (omega (arith, k, lt)))

module _ (on : Constructs) (beside : Beside) where
  -- no container starts
  pub new_none : (n : ℕ) (all : Bool) (away : Opening) (rest : Rest) → starts on (all && has_text away) rest ≡ None
      → new n on all away beside rest ≡ leaf_line on away rest beside
  new_none zero all away rest h = refl
  new_none (suc n) all away rest h = ap (λ o. start on o away (leaf_line on away rest beside) (inner_new on n beside)) h

  -- a container starts
  new-some : (n : ℕ) (all : Bool) (away : Opening) (rest : Rest) (s : ContainerStart) → length rest ≤ n → starts on (all && has_text away) rest ≡ Some s
      → let t = new_inside on (beside_in s.before beside) s.rest in
      new n on all away beside rest ≡ after on away (tree Nil (Inside s.container t.done t.now))
  new-some zero all away rest s le h = absurd (omega (arith, le, start-shorter on (all && has_text away) rest s h))
  new-some (suc n) all away rest s le h =
      ap (λ o. start on o away (leaf_line on away rest beside) (inner_new on n beside)) h
      ∙ ap (λ (t : Tree). after on away (tree Nil (Inside s.container t.done t.now)))
      (new-same on n (length s.rest) true nothing (beside_in s.before beside) s.rest
      (omega (arith, le, start-shorter on (all && has_text away) rest s h)) (omega arith))

  pub new_some : (all : Bool) (away : Opening) (rest : Rest) (s : ContainerStart) → starts on (all && has_text away) rest ≡ Some s
      → let t = new_inside on (beside_in s.before beside) s.rest in
      new (length rest) on all away beside rest ≡ after on away (tree Nil (Inside s.container t.done t.now))
  new_some all away rest s h = new-some (length rest) all away rest s (omega arith) h

  -- what is new is in the container that started
  pub grown-inside : (around : List Level) (kids : Blocks) (c : Container) (t : Tree)
      → spine_after around kids (tree Nil (Inside c t.done t.now)) ≡ spine_after (level c kids ∷ around) Nil t
  grown-inside around kids c t = ap (λ (bs : Blocks). spine_at (level c bs ∷ around) t.done t.now) (join-nil kids)

  after-nothing : (t : Tree) → after on nothing t ≡ t
  after-nothing t = ap (λ (bs : Blocks). tree (join bs t.done) t.now) (closed_nothing on.definition)

  -- one container more
  pub inside_more : (around : List Level) (kids : Blocks) (rest : Rest) (s : ContainerStart) → starts on false rest ≡ Some s
      → spine_after around kids (new_inside on beside rest) ≡ spine_after (level s.container kids ∷ around) Nil
      (new_inside on (beside_in s.before beside) s.rest)
  inside_more around kids rest s is =
      let t = new_inside on (beside_in s.before beside) s.rest in
      ap (spine_after around kids) (new_some true nothing rest s is ∙ after-nothing (tree Nil (Inside s.container t.done t.now)))
      ∙ grown-inside around kids s.container t
