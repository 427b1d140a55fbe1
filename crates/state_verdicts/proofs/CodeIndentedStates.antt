-- What the states of indented code do after its first indent.
use Rattle.std.proofs.Common.{◌≡◌, ℕ, Bool, true, false, not, ◌==◌, Some, None, refl}
use Rattle.state_verdicts.proofs.BlockPrelude.{and_right, Config, Context, Flows, is_feed, is_space_or_tab, Name, part, past_byte, plain, run, tries}
use Rattle.state_verdicts.proofs.BlockPrelude.{with_enter, with_exit}
use Rattle.engine_events.specs.declared.event.Name.TheVariants as names
use Rattle.engine_states.specs.declared.state.Block.TheVariants as state_block
use Rattle.engine_states.specs.declared.state.Inline.TheVariants as state_inline
use Rattle.engine_states.specs.declared.state.Name.TheVariants.{Block}
use Rattle.engine_states.specs.declared.state.State.TheVariants as states
use Rattle.state_flow.specs.Flows.{flows_bodies}
use Rattle.state_verdicts.proofs.Markers.{flop}
use Rattle.state_verdicts.proofs.Standing.{past_ending}
use Rattle.state_verdicts.proofs.WhiteReads.{spaced}

abbrev pub at_break : Name
at_break = Block state_block.CodeIndentedAtBreak

abbrev pub inside : Name
inside = Block state_block.CodeIndentedInside

abbrev pub after : Name
after = Block state_block.CodeIndentedAfter

abbrev pub further_start : Name
further_start = Block state_block.CodeIndentedFurtherStart

abbrev pub further_begin : Name
further_begin = Block state_block.CodeIndentedFurtherBegin

abbrev pub further_after : Name
further_after = Block state_block.CodeIndentedFurtherAfter

abbrev pub in_line : ℕ → Bool
in_line b = not (b == 10)

-- a chunk is begun
abbrev pub begun : Config Flows → Config Flows
begun c = past_byte (with_enter names.CodeFlowChunk None c)

-- the code is over
abbrev pub over : Config Flows → Config Flows
over c = record (with_exit names.CodeIndented c) { interrupt = false }

-- before the indent of a further line
abbrev pub readied : Config Flows → Config Flows
readied c = record c { tokenize_state = spaced 4 c.tokenize_state }

module _ {T : Type 0} (x : Context T) (c : Config Flows) where
  -- ---- before or after a chunk

  pub break_none : c.current ≡ None → run (flows_bodies x at_break) c ≡ plain c (states.Retry after)
  unfolding flows_bodies
  break_none h = rw h refl

  pub break_line : c.current ≡ Some 10
      → run (flows_bodies x at_break) c ≡ tries (states.Next inside) (states.Next after) c (states.Retry further_start)
  unfolding flows_bodies
  break_line h = rw h refl

  pub break_goes : (b : ℕ) → c.current ≡ Some b → (b == 10) ≡ false → (c.tokenize_state.size_c == 0) ≡ true
      → run (flows_bodies x at_break) c ≡ plain (begun c) (states.Next inside)
  unfolding flows_bodies
  break_goes b h k l = rw (h, k, l) refl

  -- ---- in a chunk

  pub inside_none : c.current ≡ None → run (flows_bodies x inside) c ≡ plain (with_exit names.CodeFlowChunk c) (states.Retry at_break)
  unfolding flows_bodies
  inside_none h = rw h refl

  pub inside_line : c.current ≡ Some 10 → run (flows_bodies x inside) c ≡ plain (with_exit names.CodeFlowChunk c) (states.Retry at_break)
  unfolding flows_bodies
  inside_line h = rw h refl

  pub inside_goes : (b : ℕ) → c.current ≡ Some b → in_line b ≡ true → run (flows_bodies x inside) c ≡ plain (past_byte c) (states.Next inside)
  unfolding flows_bodies
  inside_goes b h k = let f = flop (b == 10) k in rw (h, f) refl

  -- ---- at the end

  pub after_does : run (flows_bodies x after) c ≡ plain (over c) states.Ok
  unfolding flows_bodies
  after_does = refl

  -- ---- at a line ending, or at the start of a line

  module _ (lazy : c.lazy ≡ false) (pierce : c.pierce ≡ false) where
    pub start_line : c.current ≡ Some 10 → run (flows_bodies x further_start) c ≡ plain (past_ending c) (states.Next further_start)
    unfolding flows_bodies
    start_line h = rw (lazy, pierce, and_right (is_feed c.previous) false refl, h) refl

    pub start_white : (b : ℕ) → c.current ≡ Some b → (b == 10) ≡ false → is_space_or_tab b ≡ true
        → run (flows_bodies x further_start) c ≡ tries (states.Next further_begin) states.Nok (readied c) (part state_inline.SpaceOrTabStart)
    unfolding flows_bodies
    start_white b h k l = rw (lazy, pierce, and_right (is_feed c.previous) false refl, h, k, l) refl

    pub start_none : c.current ≡ None → run (flows_bodies x further_start) c ≡ plain c states.Nok
    unfolding flows_bodies
    start_none h = rw (lazy, pierce, and_right (is_feed c.previous) false refl, h) refl

    pub start_other : (b : ℕ) → c.current ≡ Some b → (b == 10) ≡ false → is_space_or_tab b ≡ false
        → run (flows_bodies x further_start) c ≡ plain c states.Nok
    unfolding flows_bodies
    start_other b h k l = rw (lazy, pierce, and_right (is_feed c.previous) false refl, h, k, l) refl

  -- ---- after an indent

  pub begin_none : c.current ≡ None → run (flows_bodies x further_begin) c ≡ plain c states.Nok
  unfolding flows_bodies
  begin_none h = rw h refl

  pub begin_line : c.current ≡ Some 10 → run (flows_bodies x further_begin) c ≡ plain c (states.Retry further_start)
  unfolding flows_bodies
  begin_line h = rw h refl

  pub begin_few : (b : ℕ) → c.current ≡ Some b → (b == 10) ≡ false → (c.tokenize_state.size_c == 0) ≡ false
      → run (flows_bodies x further_begin) c ≡ plain c states.Nok
  unfolding flows_bodies
  begin_few b h k l = rw (h, k, l) refl

  pub begin_white : (b : ℕ) → c.current ≡ Some b → (b == 10) ≡ false → (c.tokenize_state.size_c == 0) ≡ true → is_space_or_tab b ≡ true
      → run (flows_bodies x further_begin) c ≡ plain (begun c) (states.Next further_after)
  unfolding flows_bodies
  begin_white b h k l m = rw (h, k, l, m) refl

  pub begin_black : (b : ℕ) → c.current ≡ Some b → (b == 10) ≡ false → (c.tokenize_state.size_c == 0) ≡ true → is_space_or_tab b ≡ false
      → run (flows_bodies x further_begin) c ≡ plain (begun c) states.Ok
  unfolding flows_bodies
  begin_black b h k l m = rw (h, k, l, m) refl

  -- ---- in a chunk that may be blank

  pub blank_none : c.current ≡ None → run (flows_bodies x further_after) c ≡ plain c states.Nok
  unfolding flows_bodies
  blank_none h = rw h refl

  pub blank_goes : (b : ℕ) → c.current ≡ Some b → is_space_or_tab b ≡ true
      → run (flows_bodies x further_after) c ≡ plain (past_byte c) (states.Next further_after)
  unfolding flows_bodies
  blank_goes b h k = rw (h, k) refl

  pub blank_line : c.current ≡ Some 10
      → run (flows_bodies x further_after) c ≡ plain (with_exit names.CodeFlowChunk c) (states.Retry further_start)
  unfolding flows_bodies
  blank_line h = rw h refl

  pub blank_other : (b : ℕ) → c.current ≡ Some b → (b == 10) ≡ false → is_space_or_tab b ≡ false
      → run (flows_bodies x further_after) c ≡ plain c states.Ok
  unfolding flows_bodies
  blank_other b h k l = rw (h, k, l) refl
