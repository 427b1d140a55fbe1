-- What the states of a thematic break do at each byte.
use Rattle.std.proofs.Common.{◌≡◌, ℕ, Bool, true, false, nat_lt, ◌==◌, if◌then◌else◌, Some, None, refl}
use Rattle.state_verdicts.proofs.BlockPrelude.{Config, Context, Flows, is_space_or_tab, more, Name, next, no_limit, part, past_byte, plain, retry, run, tries}
use Rattle.state_verdicts.proofs.BlockPrelude.{with_enter, with_exit}
use Rattle.engine_events.specs.declared.event.Name.TheVariants as names
use Rattle.engine_states.specs.declared.state.Block.TheVariants as state_block
use Rattle.engine_states.specs.declared.state.Inline.TheVariants as state_inline
use Rattle.engine_states.specs.declared.state.Name.TheVariants.{Block}
use Rattle.engine_states.specs.declared.state.State.TheVariants as states
use Rattle.state_flow.specs.Flows.{flows_bodies}

abbrev pub start : Name
start = Block state_block.ThematicBreakStart

abbrev pub before : Name
before = Block state_block.ThematicBreakBefore

abbrev pub sequence : Name
sequence = Block state_block.ThematicBreakSequence

abbrev pub at_break : Name
at_break = Block state_block.ThematicBreakAtBreak

-- over the first marker
abbrev pub opened : ℕ → Config Flows → Config Flows
opened m c = past_byte (with_enter names.ThematicBreakSequence None (record c { tokenize_state = record c.tokenize_state { marker = m; size = 1 } }))

-- over a further one
abbrev pub longer : Config Flows → Config Flows
longer c = past_byte (record c { tokenize_state = record c.tokenize_state { size = more c.tokenize_state.size } })

-- over the first after white space
abbrev pub begun : Config Flows → Config Flows
begun c =
    past_byte (record (with_enter names.ThematicBreakSequence None c) { tokenize_state = record c.tokenize_state { size = more c.tokenize_state.size } })

-- at the end of a part of markers
abbrev pub closed : Config Flows → Config Flows
closed c = with_exit names.ThematicBreakSequence c

-- before white space
abbrev pub readied : Config Flows → Config Flows
readied c = record (closed c) { tokenize_state = record c.tokenize_state { size_c = no_limit } }

-- at the end of the line
abbrev pub finished : Config Flows → Config Flows
finished c = record (with_exit names.ThematicBreak c) { interrupt = false }

module _ {T : Type 0} (x : Context T) where
  pub start_does : (c : Config Flows) (on : Bool) → x.options.constructs.thematic_break ≡ on
      → run (flows_bodies x start) c
      ≡ (if on then plain (with_enter names.ThematicBreak None c) (retry state_block.ThematicBreakBefore) else plain c states.Nok)
  unfolding flows_bodies
  start_does c on h = rw h refl

  pub before_none : (c : Config Flows) → c.current ≡ None → run (flows_bodies x before) c ≡ plain c states.Nok
  unfolding flows_bodies
  before_none c h = rw h refl

  pub before_other : (b : ℕ) (c : Config Flows) → c.current ≡ Some b → (b == 42) ≡ false → (b == 45) ≡ false → (b == 95) ≡ false
      → run (flows_bodies x before) c ≡ plain c states.Nok
  unfolding flows_bodies
  before_other b c h k l m = rw (h, k, l, m) refl

  pub before_asterisk : (c : Config Flows) → c.current ≡ Some 42 → run (flows_bodies x before) c ≡ plain (opened 42 c) (next state_block.ThematicBreakSequence)
  unfolding flows_bodies
  before_asterisk c h = rw h refl

  pub before_hyphen : (c : Config Flows) → c.current ≡ Some 45 → run (flows_bodies x before) c ≡ plain (opened 45 c) (next state_block.ThematicBreakSequence)
  unfolding flows_bodies
  before_hyphen c h = rw h refl

  pub before_underscore : (c : Config Flows) → c.current ≡ Some 95 → run (flows_bodies x before) c
      ≡ plain (opened 95 c) (next state_block.ThematicBreakSequence)
  unfolding flows_bodies
  before_underscore c h = rw h refl

  pub sequence_none : (c : Config Flows) → c.current ≡ None → run (flows_bodies x sequence) c ≡ plain (closed c) (retry state_block.ThematicBreakAtBreak)
  unfolding flows_bodies
  sequence_none c h = rw h refl

  pub sequence_longer : (b : ℕ) (c : Config Flows) → c.current ≡ Some b → (b == c.tokenize_state.marker) ≡ true
      → run (flows_bodies x sequence) c ≡ plain (longer c) (next state_block.ThematicBreakSequence)
  unfolding flows_bodies
  sequence_longer b c h k = rw (h, k) refl

  pub sequence_white : (b : ℕ) (c : Config Flows) → c.current ≡ Some b → (b == c.tokenize_state.marker) ≡ false → is_space_or_tab b ≡ true
      → run (flows_bodies x sequence) c ≡ tries (next state_block.ThematicBreakAtBreak) states.Nok (readied c) (part state_inline.SpaceOrTabStart)
  unfolding flows_bodies
  sequence_white b c h k l = rw (h, k, l) refl

  pub sequence_other : (b : ℕ) (c : Config Flows) → c.current ≡ Some b → (b == c.tokenize_state.marker) ≡ false → is_space_or_tab b ≡ false
      → run (flows_bodies x sequence) c ≡ plain (closed c) (retry state_block.ThematicBreakAtBreak)
  unfolding flows_bodies
  sequence_other b c h k l = rw (h, k, l) refl

  pub break_none : (c : Config Flows) (is : Bool) → c.current ≡ None → nat_lt c.tokenize_state.size 3 ≡ is
      → run (flows_bodies x at_break) c ≡ (if is then plain c states.Nok else plain (finished c) states.Ok)
  unfolding flows_bodies
  break_none c is h k = rw (h, k) refl

  pub break_line : (c : Config Flows) (is : Bool) → c.current ≡ Some 10 → (10 == c.tokenize_state.marker) ≡ false → nat_lt c.tokenize_state.size 3 ≡ is
      → run (flows_bodies x at_break) c ≡ (if is then plain c states.Nok else plain (finished c) states.Ok)
  unfolding flows_bodies
  break_line c is h k l = rw (h, k, l) refl

  pub break_marker : (b : ℕ) (c : Config Flows) → c.current ≡ Some b → (b == c.tokenize_state.marker) ≡ true
      → run (flows_bodies x at_break) c ≡ plain (begun c) (next state_block.ThematicBreakSequence)
  unfolding flows_bodies
  break_marker b c h k = rw (h, k) refl

  pub break_other : (b : ℕ) (c : Config Flows) → c.current ≡ Some b → (b == c.tokenize_state.marker) ≡ false → (b == 10) ≡ false
      → run (flows_bodies x at_break) c ≡ plain c states.Nok
  unfolding flows_bodies
  break_other b c h k l = rw (h, k, l) refl
