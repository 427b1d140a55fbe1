-- What the states of the lines of code and math do at each byte.
use Rattle.std.proofs.Common.{◌≡◌, ℕ, Bool, true, false, nat_lt, ◌==◌, if◌then◌else◌, Some, None, refl}
use Rattle.state_verdicts.proofs.BlockPrelude.{Config, Context, Flows, has, is_space_or_tab, Name, part, past_byte, plain, run, tries, with_enter, with_exit}
use Rattle.engine_states.specs.declared.state.Block.TheVariants as state_block
use Rattle.engine_states.specs.declared.state.Inline.TheVariants as state_inline
use Rattle.engine_states.specs.declared.state.Name.TheVariants.{Block}
use Rattle.engine_states.specs.declared.state.State.TheVariants as states
use Rattle.markdown_engine.specs.Machine.{checks}
use Rattle.state_flow.specs.Flows.{flows_bodies}
use Rattle.state_table.specs.BlockWords.{indent_max}
use Rattle.state_verdicts.proofs.Markers.{flop}
use Rattle.state_verdicts.proofs.Standing.{past_ending}
use Rattle.state_verdicts.proofs.WhiteReads.{spaced}
use Rattle.state_verdicts.specs.Frontmatter.{is_inner_byte}

abbrev pub ending : Name
ending = Block state_block.NonLazyContinuationStart

abbrev pub after_ending : Name
after_ending = Block state_block.NonLazyContinuationAfter

abbrev pub at_break : Name
at_break = Block state_block.RawFlowAtNonLazyBreak

abbrev pub before_line : Name
before_line = Block state_block.RawFlowContentBefore

abbrev pub close : Name
close = Block state_block.RawFlowCloseStart

abbrev pub before_close : Name
before_close = Block state_block.RawFlowBeforeSequenceClose

abbrev pub at_line : Name
at_line = Block state_block.RawFlowContentStart

abbrev pub before_chunk : Name
before_chunk = Block state_block.RawFlowBeforeContentChunk

abbrev pub in_chunk : Name
in_chunk = Block state_block.RawFlowContentChunk

abbrev pub after : Name
after = Block state_block.RawFlowAfter

-- before the indent of a line that may close the fence
abbrev pub closing : Config Flows → Config Flows
closing c = with_enter c.tokenize_state.token_2 None c

abbrev pub with_most : ℕ → Config Flows → Config Flows
with_most most c = record c { tokenize_state = spaced most c.tokenize_state }

-- the end
abbrev pub done : Config Flows → Config Flows
done c = record (with_exit c.tokenize_state.token_1 c) { interrupt = false; concrete = false }

module _ {T : Type 0} (x : Context T) where
  pub ending_none : (c : Config Flows) → c.current ≡ None → run (flows_bodies x ending) c ≡ plain c states.Nok
  unfolding flows_bodies
  ending_none c h = rw h refl

  pub ending_line : (c : Config Flows) → c.current ≡ Some 10 → run (flows_bodies x ending) c ≡ plain (past_ending c) (states.Next after_ending)
  unfolding flows_bodies
  ending_line c h = rw h refl

  pub after_ending_none : (c : Config Flows) → c.current ≡ None → nat_lt c.tokenize_state.marker 8 ≡ false
      → run (flows_bodies x after_ending) c ≡ plain c states.Ok
  unfolding flows_bodies
  after_ending_none c h k = rw (h, k) refl

  pub after_ending_byte : (b : ℕ) (c : Config Flows) (lazy : Bool) → c.current ≡ Some b → c.lazy ≡ lazy
      → run (flows_bodies x after_ending) c ≡ (if lazy then plain c states.Nok else plain c states.Ok)
  unfolding flows_bodies
  after_ending_byte b c lazy h k = rw (h, k) refl

  pub break_line : (c : Config Flows) → c.current ≡ Some 10 → run (flows_bodies x at_break) c ≡ plain c (states.Retry before_line)
  unfolding flows_bodies
  break_line c h = rw h refl

  pub line_does : (c : Config Flows) → c.current ≡ Some 10
      → run (flows_bodies x before_line) c ≡ tries (states.Next after) (states.Next at_line) (past_ending c) (states.Next close)
  unfolding flows_bodies
  line_does c h = rw h refl

  pub close_black : (c : Config Flows) → has is_space_or_tab c.current ≡ false
      → run (flows_bodies x close) c ≡ plain (closing c) (states.Retry before_close)
  unfolding flows_bodies
  close_black c h = rw h refl

  pub close_white : (c : Config Flows) → has is_space_or_tab c.current ≡ true
      → run (flows_bodies x close) c ≡ tries (states.Next before_close) states.Nok
      (with_most (indent_max x.options.constructs.code_indented) (closing c)) (part state_inline.SpaceOrTabStart)
  unfolding flows_bodies
  close_white c h = rw h refl

  pub line_whole : (c : Config Flows) → (c.tokenize_state.space_or_tab_size == 0) ≡ true
      → run (flows_bodies x at_line) c ≡ plain c (states.Retry before_chunk)
  unfolding flows_bodies
  line_whole c h = rw h refl

  pub line_black : (c : Config Flows) → (c.tokenize_state.space_or_tab_size == 0) ≡ false → has is_space_or_tab c.current ≡ false
      → run (flows_bodies x at_line) c ≡ plain c (states.Retry before_chunk)
  unfolding flows_bodies
  line_black c h k = rw (h, k) refl

  pub line_white : (c : Config Flows) → (c.tokenize_state.space_or_tab_size == 0) ≡ false → has is_space_or_tab c.current ≡ true
      → run (flows_bodies x at_line) c ≡ tries (states.Next before_chunk) states.Nok (with_most c.tokenize_state.space_or_tab_size c)
      (part state_inline.SpaceOrTabStart)
  unfolding flows_bodies
  line_white c h k = rw (h, k) refl

  pub chunk_none : (c : Config Flows) → c.current ≡ None
      → run (flows_bodies x before_chunk) c ≡ checks (states.Next at_break) (states.Next after) c (states.Retry ending)
  unfolding flows_bodies
  chunk_none c h = rw h refl

  pub chunk_line : (c : Config Flows) → c.current ≡ Some 10
      → run (flows_bodies x before_chunk) c ≡ checks (states.Next at_break) (states.Next after) c (states.Retry ending)
  unfolding flows_bodies
  chunk_line c h = rw h refl

  pub chunk_goes : (b : ℕ) (c : Config Flows) → c.current ≡ Some b → (b == 10) ≡ false
      → run (flows_bodies x before_chunk) c ≡ plain (past_byte (with_enter c.tokenize_state.token_6 None c)) (states.Next in_chunk)
  unfolding flows_bodies
  chunk_goes b c h k = rw (h, k) refl

  pub inside_goes : (b : ℕ) (c : Config Flows) → c.current ≡ Some b → is_inner_byte b ≡ true
      → run (flows_bodies x in_chunk) c ≡ plain (past_byte c) (states.Next in_chunk)
  unfolding flows_bodies
  inside_goes b c h k = let f = flop (b == 10) k in rw (h, f) refl

  pub inside_none : (c : Config Flows) → c.current ≡ None
      → run (flows_bodies x in_chunk) c ≡ plain (with_exit c.tokenize_state.token_6 c) (states.Retry before_chunk)
  unfolding flows_bodies
  inside_none c h = rw h refl

  pub inside_line : (c : Config Flows) → c.current ≡ Some 10
      → run (flows_bodies x in_chunk) c ≡ plain (with_exit c.tokenize_state.token_6 c) (states.Retry before_chunk)
  unfolding flows_bodies
  inside_line c h = rw h refl

  pub after_does : (c : Config Flows) → run (flows_bodies x after) c ≡ plain (done c) states.Ok
  unfolding flows_bodies
  after_does c = refl
