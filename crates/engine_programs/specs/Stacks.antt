-- What holds where a state is next, of the configuration and of the attempts that wait.
use Rattle.std.specs.Prelude.{◌≡◌, ℕ, ◌+◌, ◌*◌, ◌<◌, ◌≤◌, Bool, true, false, not, ◌&&◌, ◌||◌, if◌then◌else◌, List, [], ◌∷◌, ◌++◌, length, take, reverse, Option}
use Rattle.std.specs.Prelude.{Some}
use Rattle.engine_events.specs.declared.event.Event.{Event}
use Rattle.engine_events.specs.declared.event.Name.{Name as EventName}
use Rattle.engine_events.specs.declared.place.Point.{Point}
use Rattle.engine_states.specs.declared.state.Name.{Name}
use Rattle.engine_states.specs.declared.state.State.{State}
use Rattle.engine_states.specs.declared.state.State.TheVariants as states
use Rattle.markdown_engine.specs.declared.attempt.Attempt.{Attempt}
use Rattle.markdown_engine.specs.declared.tokenizer.Tokenizer.{Tokenizer}
use Rattle.markdown_engine.specs.Descent.{descent}
use Rattle.markdown_engine.specs.KeptState.{KeptState, kept_state}
use Rattle.markdown_engine.specs.Laws.{remaining}
use Rattle.markdown_engine.specs.Machine.{Answers, config}
use Rattle.markdown_engine.specs.Order.{AreTidy, IsTidy, LeadsOn, Reaches, open_after}
use Rattle.markdown_engine.specs.Reading.{Config}
use Rattle.markdown_engine.specs.VirtualText.{is_feed}
use Rattle.engine_programs.specs.Bodies.{Token, Body, names_of, run}
use Rattle.engine_programs.specs.Sorts.{Sort, all_fixed, after_of, is_nok, left_open, nok_height, ok_height, open_around, wants_end}

module _ (sorts : Name → Sort) (size : ℕ) where
  -- what stands around an attempt
  abbrev pub around_of : Attempt → List Token
  around_of a = open_around sorts a.ok a.nok

  -- what is open around the innermost attempt; of the attempts the innermost is the first
  abbrev pub below : KeptState → List Attempt → List EventName
  below k [] = []
  below k (a ∷ st) = names_of k (around_of a) ++ below k st

  -- what is to be left open where it goes well
  abbrev pub left_by : List Attempt → List Token
  left_by [] = []
  left_by (a ∷ st) = left_open sorts a.ok (left_by st)

  -- whether a byte is to be read
  abbrev pub needs_byte : List Attempt → Bool
  needs_byte [] = false
  needs_byte (a ∷ st) = after_of sorts a.ok

  -- whether it may not fail
  abbrev pub must_go_well : List Attempt → Bool
  must_go_well [] = true
  must_go_well (a ∷ st) = is_nok a.nok && must_go_well st

  -- whether an event must be able to end where it goes well
  abbrev pub needs_end : List Attempt → Bool
  needs_end [] = false
  needs_end (a ∷ st) = not a.check && wants_end sorts a.ok (needs_end st)

  -- whether an event must be able to end where the attempt began
  abbrev pub ends_back : Attempt → List Attempt → Bool
  ends_back a st = wants_end sorts a.nok (needs_end st) || (a.check && wants_end sorts a.ok (needs_end st))

  abbrev pub are_plain : List Attempt → Bool
  are_plain [] = true
  are_plain (a ∷ st) = all_fixed (around_of a) && are_plain st

  -- the attempts suit the state
  pub record Suits (st : List Attempt) (n : Name) : Type 0 where
    pub yields : needs_byte st ≡ true → (sorts n).yields ≡ true
    pub sure : must_go_well st ≡ true → (sorts n).sure ≡ true
    pub plain : (sorts n).plain ≡ true → are_plain st ≡ true
    pub firm : needs_end st ≡ true → (sorts n).firm ≡ true
    pub leaves : (sorts n).leaves ≡ left_by st

  -- so much is left since the innermost attempt, and less if a byte was read
  abbrev pub Far : List Attempt → ℕ → Bool → Type 0
  Far [] left moved = Unit {0}
  Far (a ∷ st) left false = left ≤ remaining size a.point
  Far (a ∷ st) left true = left < remaining size a.point

  -- no event is after the place of an exit
  abbrev pub Ends : Option ℕ → Point → Point → List Event → Type 0
  Ends previous line_start point events = let p = if is_feed previous then line_start else point in AreTidy events p × Reaches p point

  abbrev pub OkGoes : Attempt → List Attempt → State → Type 0
  OkGoes a st (states.Error m) = ⊥
  OkGoes a st (states.Next m) = Suits st m × ((sorts m).byte ≡ false) × ((sorts m).after ≡ true → a.check ≡ false) × (a.check ≡ true → (sorts m).given ≡ 0)
      × Far st (remaining size a.point) (if (sorts m).after then false else (sorts m).moved)
  OkGoes a st (states.Retry m) = ⊥
  OkGoes a st states.Ok = Far st (remaining size a.point) (needs_byte st) × (a.check ≡ true → left_by st ≡ [])
  OkGoes a st states.Nok = must_go_well st ≡ false

  abbrev pub NokGoes : Attempt → List Attempt → State → Type 0
  NokGoes a st (states.Error m) = ⊥
  NokGoes a st (states.Next m) = Suits st m × ((sorts m).byte ≡ false) × ((sorts m).open_tokens ≡ around_of a) × Far st (remaining size a.point) (sorts m).moved
  NokGoes a st (states.Retry m) = ⊥
  NokGoes a st states.Ok = (left_by st ≡ around_of a) × Far st (remaining size a.point) (needs_byte st)
  NokGoes a st states.Nok = Unit {0}

  pub record Mark (k : KeptState) (events : List Event) (a : Attempt) (st : List Attempt) : Type 0 where
    pub low : a.events ≤ length events
    pub tidy : AreTidy (take a.events events) a.point
    pub exits : ends_back a st ≡ true → Ends a.previous a.line_start a.point (take a.events events)
    pub names : open_after [] (take a.events events) ≡ below k (a ∷ st)
    pub ok : OkGoes a st a.ok
    pub nok : NokGoes a st a.nok

  abbrev pub Marks : KeptState → List Event → List Attempt → Type 0
  Marks k events [] = Unit {0}
  Marks k events (a ∷ st) = Mark k events a st × Marks k (take a.events events) st

  module _ {M : Type 0} where
    abbrev pub MayExit : Config M → Type 0
    MayExit c = Ends c.previous c.line_start c.point c.events

    pub record Ahead (c : Config M) : Type 0 where
      pub less : (b : ℕ) → c.current ≡ Some b → remaining size c.next < remaining size c.point
      pub leads : LeadsOn c

    abbrev pub HasByte : Config M → Type 0
    HasByte c = (b : ℕ) × (c.current ≡ Some b)

    pub record At (n : Name) (st : List Attempt) (c : Config M) : Type 0 where
      pub suits : Suits st n
      pub names : open_after [] c.events ≡ names_of c.tokenize_state (sorts n).open_tokens ++ below c.tokenize_state st
      pub far : Far st (remaining size c.point) (sorts n).moved
      pub exits : (sorts n).exits ≡ true → MayExit c

    abbrev pub Stands : State → List Attempt → Config M → Type 0
    Stands (states.Error m) st c = ⊥
    Stands (states.Next n) st c = At n st c × ((sorts n).byte ≡ false)
    Stands (states.Retry n) st c = At n st c × Ahead c × ((sorts n).byte ≡ true → HasByte c)
    Stands states.Ok st c = (open_after [] c.events ≡ names_of c.tokenize_state (left_by st) ++ below c.tokenize_state st)
        × Far st (remaining size c.point) (needs_byte st) × (needs_end st ≡ true → MayExit c)
    Stands states.Nok st c = must_go_well st ≡ false

    pub record IsValid (s : State) (st : List Attempt) (c : Config M) : Type 0 where
      pub stands : Stands s st c
      pub tidy : IsTidy c
      pub marks : Marks c.tokenize_state c.events st
      pub unedited : c.map ≡ []

-- ---- what the laws of a machine ask for

module _ (sorts : Name → Sort) (most size : ℕ) where
  abbrev pub program_waits : Attempt → ℕ
  program_waits a = most * remaining size a.point + (ok_height sorts a.ok + nok_height sorts a.nok) + 1

  module _ {M : Type 0} where
    abbrev pub program_weight : Config M → State → ℕ
    program_weight c (states.Error m) = 0
    program_weight c (states.Next n) = most * remaining size c.point + (sorts n).height + 1
    program_weight c (states.Retry n) = most * remaining size c.point + (sorts n).height + 1
    program_weight c states.Ok = 0
    program_weight c states.Nok = 0

    abbrev pub program_rank : Config M → List Attempt → State → ℕ
    program_rank = descent 2 program_weight program_waits

    abbrev pub program_valid : Config M → List Attempt → State → Type 0
    program_valid c stack s = IsValid sorts size s (reverse stack) c

-- ---- what functions say

module _ {M T A : Type 0} where
  -- a call did what the body says, or memory was wanted
  abbrev pub Does : Body M → Tokenizer M T A → Tokenizer M T A → State → Type 0
  Does b old new s = Answers (run b (config old)) old new s

  -- these are the innermost open events
  abbrev pub IsOpen : List Token → Tokenizer M T A → Type 0
  IsOpen ts t = (rest : List EventName) × (open_after [] t.events.items ≡ names_of (kept_state t.tokenize_state) ts ++ rest)
