-- The parts of a fence fill its row of the grammar (CommonMark 4.5).
use Rattle.std.proofs.Common.{◌≡◌, ℕ, zero, suc, ◌+◌, ◌-◌, ◌<◌, Bool, true, false, not, cond, List, [], ◌∷◌, None, Some, inl, inr, refl, sym, ap, subst, ◌∙◌}
use Rattle.std.proofs.Common.{drop, take, get_or, length, arith}
use Rattle.std.specs.List.{suffix_len}
use Rattle.parse_raw.proofs.Prelude.{AreNames, bare, cases_Bool, cond-false, cond-true, Constructs, End, end_at, false≢true, fence_marks, fence_name}
use Rattle.parse_raw.proofs.Prelude.{FenceNames, indent, is_listed, is_white, IsPartOf, kids_of, Name, Names, Node, node_name, Nodes, position_or_len, same_name, trim}
use Rattle.parse_raw.proofs.Prelude.{void_nodes}
use Rattle.engine_events.specs.declared.event.Name.TheVariants as n
use Rattle.event_grammar.specs.declared.slot.Between.TheVariants.{Lines, Spaces}
use Rattle.event_grammar.specs.declared.slot.Form.TheVariants.{Closing, Plain}
use Rattle.event_grammar.specs.declared.slot.Slot.{Slot}
use Rattle.event_grammar.specs.Grammar.{opt, row}
use Rattle.event_grammar.specs.Slots.{may_end, take_child}
use Rattle.event_tokens.specs.Tokens.{is_among}
use Rattle.parse_slots.specs.Left.{Fill, IsFilled, took}
use Rattle.parse_slots.proofs.Steps.{fill_none, fill_taken, filled_in_line}
use Rattle.parse_slots.proofs.Voids.{further_apart, void_between, void_taken}
use Rattle.parse_references.specs.Sound.{AreSound, IsSound, asked_names}
use Rattle.parse_references.proofs.Sound.{sound_around}
use Rattle.parse_raw.specs.FenceParts.{after_string, BeginsBare, fence_slots, info_size, info_slots, meta_slots}

-- an event that holds no other, of so many bytes, leads a row from slots to others
abbrev pub FillsToken : Name → ℕ → List Slot → List Slot → Type 0
FillsToken name size slots more = (text : List ℕ) (from : End) → Fill Spaces slots (void_nodes text name from (end_at (from.index + size) 0)) more

pub space_fills : (size : ℕ) (slots : List Slot) → take_child slots n.SpaceOrTab ≡ None → FillsToken n.SpaceOrTab size slots slots
space_fills size slots takes text from = void_between Spaces slots n.SpaceOrTab text from (end_at (from.index + size) 0) refl takes refl refl

pub sequence_fills : (name : Name) (size : ℕ) (slots more : List Slot) → 0 < size → same_name name n.Data ≡ false
    → take_child slots name ≡ Some (took Plain more) → may_end (row name Plain) ≡ true → FillsToken name size slots more
sequence_fills name size slots more some other takes may text from =
    let to = end_at (from.index + size) 0 in
    void_taken Spaces slots name Plain more text from to (further_apart from to (omega (arith, some))) other takes may

pub part_fill : (names : Names) (text : List ℕ) (on : Constructs) (name : Name) (slots more : List Slot) (string : List ℕ) (ns : Nodes)
    → (0 < length string → take_child slots name ≡ Some (took Plain more)) → IsPartOf on names text name string ns
    → Fill Spaces slots ns (after_string string slots more)
part_fill names text on name slots more [] ns takes is = subst (λ (ms : Nodes). Fill Spaces slots ms slots) (sym is) (fill_none Spaces slots)
part_fill names text on name slots more (b ∷ bs) ns takes is =
    subst (λ (ms : Nodes). Fill Spaces slots ms more) (sym is.1) (fill_taken Spaces slots name Plain more is.0 is.2 (takes (omega arith)) is.4)

-- white space may follow, or the fence may end
pub record MayStop (slots : List Slot) : Type 0 where
  pub space : take_child slots n.SpaceOrTab ≡ None
  pub ends : may_end slots ≡ true

string_stops : (string : List ℕ) (slots more : List Slot) → MayStop slots → MayStop more → MayStop (after_string string slots more)
string_stops [] slots more one two = one
string_stops (b ∷ bs) slots more one two = two

pub fence_stops : (math : Bool) → MayStop (fence_slots math)
fence_stops true = record { space = refl; ends = refl }
fence_stops false = record { space = refl; ends = refl }

pub info_stops : (math : Bool) (text : List ℕ) → MayStop (info_slots math text)
info_stops true text = fence_stops true
info_stops false text =
    string_stops (take (position_or_len is_white text) text) (fence_slots false) (opt n.CodeFencedFenceMeta ∷ []) (fence_stops false)
    (record { space = refl; ends = refl })

pub meta_stops : (math : Bool) (text : List ℕ) → MayStop (meta_slots math text)
meta_stops math text =
    string_stops (bare (drop (info_size math text) text)) (info_slots math text) [] (info_stops math text) (record { space = refl; ends = refl })

-- what follows an info is taken: where there is none, nothing follows it
pub meta_takes : (fence : FenceNames) (math : Bool) (text : List ℕ) → AreNames math fence → BeginsBare text
    → 0 < length (bare (drop (info_size math text) text)) → take_child (info_slots math text) fence.meta ≡ Some (took Plain [])
meta_takes fence true text are begins some = ap (take_child (fence_slots true)) are.meta
meta_takes fence false [] are begins some = let none : 0 < 0 = some in absurd (omega (arith, none))
meta_takes fence false (b ∷ bs) are begins some =
    let more = opt n.CodeFencedFenceMeta ∷ [] in
    let count : position_or_len is_white (b ∷ bs) ≡ suc (position_or_len is_white bs) =
    ap (λ (t : Bool). cond (not t) (1 + position_or_len is_white bs) 0) begins ∙ omega arith in
    ap (λ (k : ℕ). take_child (after_string (take k (b ∷ bs)) (fence_slots false) more) fence.meta) count ∙ ap (take_child more) are.meta

-- what is trimmed begins with no white space
bare_begins : (xs : List ℕ) → BeginsBare (drop (indent xs) xs)
bare_begins [] = tt
bare_begins (x ∷ xs) = elim (cases_Bool (is_white x)) [
  | inl white ↦
      let count : indent (x ∷ xs) ≡ suc (indent xs) = cond-true (is_white x) (1 + indent xs) 0 white ∙ omega arith in
      subst (λ (k : ℕ). BeginsBare (drop k (x ∷ xs))) (sym count) (bare_begins xs)
  | inr dark ↦
      let count : indent (x ∷ xs) ≡ 0 = cond-false (is_white x) (1 + indent xs) 0 dark in
      subst (λ (k : ℕ). BeginsBare (drop k (x ∷ xs))) (sym count) dark
]

take_begins : (k : ℕ) (xs : List ℕ) → BeginsBare xs → BeginsBare (take k xs)
take_begins zero xs begins = tt
take_begins (suc k) [] begins = tt
take_begins (suc k) (x ∷ xs) begins = begins

pub trim_begins : (xs : List ℕ) → BeginsBare (trim xs)
trim_begins xs = let rest = drop (indent xs) xs in take_begins (length rest - suffix_len is_white rest) rest (bare_begins xs)

-- a fence fills its row
pub fence_filled : (math : Bool) (node : Node) (rest : List Slot) → node_name node ≡ fence_name math
    → Fill Spaces (row (fence_name math) Plain) (kids_of node) rest → may_end rest ≡ true → IsFilled Lines Plain node
fence_filled true node rest named fill may = filled_in_line Lines Plain n.MathFlowFence rest node named refl refl fill may
fence_filled false node rest named fill may = filled_in_line Lines Plain n.CodeFencedFence rest node named refl refl fill may

pub closing_filled : (math : Bool) (node : Node) (rest : List Slot) → node_name node ≡ fence_name math
    → Fill Spaces (row (fence_name math) Closing) (kids_of node) rest → may_end rest ≡ true → IsFilled Lines Closing node
closing_filled true node rest named fill may = filled_in_line Lines Closing n.MathFlowFence rest node named refl refl fill may
closing_filled false node rest named fill may = filled_in_line Lines Closing n.CodeFencedFence rest node named refl refl fill may

-- where what it holds is sound, it is
pub fence_sound : (on : Constructs) (names : Names) (text : List ℕ) (math : Bool) (node : Node) → node_name node ≡ fence_name math → AreSound on names text (kids_of node)
    → IsSound on names text node
fence_sound on names text true node named sound = sound_around on names text node (ap (is_listed asked_names) named) sound
fence_sound on names text false node named sound = sound_around on names text node (ap (is_listed asked_names) named) sound

-- the sequence of a fence in its row
pub record HasSequence (math : Bool) (name : Name) : Type 0 where
  pub opening : take_child (row (fence_name math) Plain) name ≡ Some (took Plain (fence_slots math))
  pub closing : take_child (row (fence_name math) Closing) name ≡ Some (took Plain [])
  pub void : may_end (row name Plain) ≡ true

pub sequence_row : (fence : FenceNames) (math : Bool) → AreNames math fence → HasSequence math fence.sequence
sequence_row fence true are = subst (HasSequence true) (sym are.sequence) (record { opening = refl; closing = refl; void = refl })
sequence_row fence false are = subst (HasSequence false) (sym are.sequence) (record { opening = refl; closing = refl; void = refl })

-- where the mark of a fence comes first, there is something
pub mark_some : (math : Bool) (byte : ℕ) (bytes : List ℕ) → is_among (fence_marks math) byte ≡ true → get_or bytes 0 0 ≡ byte → 0 < length bytes
mark_some true byte [] mark is = absurd (false≢true (ap (is_among (fence_marks true)) is ∙ mark))
mark_some false byte [] mark is = absurd (false≢true (ap (is_among (fence_marks false)) is ∙ mark))
mark_some math byte (b ∷ bs) mark is = omega arith
