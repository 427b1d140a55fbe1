-- Code spans and math, by the events after their enter.
use Rattle.std.specs.Prelude.{ℕ, ◌+◌, ◌-◌, Bool, true, false, ◌==◌, ◌&&◌, ◌||◌, not, if◌then◌else◌, List, [], ◌∷◌, ◌++◌, codes, Option, None, Some}
use Rattle.std.specs.List.{repeat}
use Rattle.engine_events.specs.Names.{same_name}
use Rattle.engine_events.specs.declared.event.Event.{Event}
use Rattle.engine_events.specs.declared.event.Kind.{Kind}
use Rattle.engine_events.specs.declared.event.Kind.TheVariants.{Enter, Exit}
use Rattle.engine_events.specs.declared.event.Name.{Name}
use Rattle.engine_events.specs.declared.event.Name.TheVariants as n
use Rattle.event_grammar.specs.declared.spot.Spot.{Spot}
use Rattle.event_grammar.specs.Points.{spot, bytes_between, spot_of}
use Rattle.event_meaning.specs.Children.{columns_after}
use Rattle.compile_strings.specs.declared.raw_text.RawPlace.{RawPlace}
use Rattle.compile_written.specs.Child.{text_first}
use Rattle.compile_written.specs.Strings.{valid}

-- the name of the sequences around raw text
abbrev pub sequence_of : Name → Option Name
sequence_of name =
    if same_name name n.CodeText then Some n.CodeTextSequence
    else (if same_name name n.MathText then Some n.MathTextSequence
    else None)

abbrev pub is_chunk : Name → Bool
is_chunk name = same_name name n.CodeTextData || same_name name n.MathTextData

abbrev pub spot_next : Kind → ℕ → Spot → (ℕ → Spot) → Spot
spot_next Enter depth here others = others (depth + 1)
spot_next Exit depth here others = if depth == 0 then here else others (depth - 1)

-- where the event that these are in is exited
abbrev pub exit_spot : ℕ → List Event → Spot
exit_spot depth [] = spot 0 0
exit_spot depth (e ∷ es) = spot_next e.kind depth (spot_of e) (λ d. exit_spot d es)

abbrev pub spaces : ℕ → List ℕ
spaces count = repeat count (codes " ")

-- what an event does to raw text: nothing, a first sequence, a second one, which ends it, or a part
abbrev pub raw_next : Kind → Bool → Bool → ℕ → List ℕ → (Bool → ℕ → List ℕ) → List ℕ
raw_next Enter is_sequence begun depth here others =
    if not (depth == 0) then others begun (depth + 1)
    else (if is_sequence then (if begun then [] else others true (depth + 1))
    else (if begun then here else []) ++ others begun (depth + 1))
raw_next Exit is_sequence begun depth here others = if depth == 0 then [] else others begun (depth - 1)

abbrev pub is_exit : Kind → Bool
is_exit Enter = false
is_exit Exit = true

-- whether an event enters something of this name
abbrev pub begins : Name → Event → Bool
begins name e = not (is_exit e.kind) && same_name e.name name

-- whether an event is a part of raw text
abbrev pub is_raw_part : Kind → Bool → Bool → ℕ → Bool
is_raw_part kind is_sequence begun depth = not (is_exit kind) && not is_sequence && begun && (depth == 0)

abbrev pub past_sequence : Bool → Option RawPlace
past_sequence begun = if begun then None else Some (record { begun = true; depth = 1 })

-- what comes of an event, given the place after it
abbrev pub raw_walked : Bool → Option RawPlace → List ℕ → (Bool → ℕ → List ℕ) → List ℕ
raw_walked part None here others = []
raw_walked part (Some next) here others = (if part then here else []) ++ others next.begun next.depth

module _ (bytes : List ℕ) where
  -- the chunk that events begin with, with spaces for the columns of tabs that its ends cut
  abbrev pub chunk_between : Spot → Spot → List ℕ → List ℕ
  chunk_between p q text =
      if not (p.vs == 0) && (p.index == q.index) then spaces (q.vs - p.vs)
      else spaces (columns_after bytes p) ++ text ++ spaces (q.vs - 1)

  abbrev pub chunk_first : List Event → List ℕ
  chunk_first [] = []
  chunk_first (e ∷ es) = chunk_between (spot_of e) (exit_spot 0 es) (valid (text_first bytes (e ∷ es)))

  abbrev pub raw_part_first : Name → List Event → List ℕ
  raw_part_first name events =
      if same_name name n.LineEnding then codes " " else (if is_chunk name then chunk_first events else [])

  -- the text between the sequences; whether the first was passed is given
  abbrev pub raw_after : Name → Bool → ℕ → List Event → List ℕ
  raw_after sequence begun depth [] = []
  raw_after sequence begun depth (e ∷ es) =
      raw_next e.kind (same_name e.name sequence) begun depth (raw_part_first e.name (e ∷ es)) (λ b d. raw_after sequence b d es)

  -- a chunk that is one piece of the bytes: no tab is cut
  abbrev pub piece_by : Event → Event → Option (List ℕ)
  piece_by enter exit =
      if not (is_exit enter.kind) && is_exit exit.kind && ((spot_of enter).vs == 0) && ((spot_of exit).vs == 0)
      then Some (bytes_between bytes (spot_of enter) (spot_of exit))
      else None

  -- the text between the sequences, if it is one piece of the bytes
  abbrev pub whole_by : Name → List Event → Option (List ℕ)
  whole_by sequence (before ∷ end ∷ enter ∷ exit ∷ after ∷ es) =
      if begins sequence before && is_exit end.kind && is_chunk enter.name && begins sequence after then piece_by enter exit else None
  whole_by sequence es = None
