-- What the states of an opening fence do at each byte.
use Rattle.std.proofs.Common.{◌≡◌, ℕ, Bool, true, false, nat_lt, ◌==◌, ◌&&◌, ◌||◌, if◌then◌else◌, Some, None, refl}
use Rattle.state_verdicts.proofs.BlockPrelude.{Config, Context, Flows, is_space_or_tab, more, Name, next, no_limit, part, past_byte, plain, retry, run, tries}
use Rattle.state_verdicts.proofs.BlockPrelude.{with_enter, with_exit}
use Rattle.engine_events.specs.declared.event.Name.TheVariants as names
use Rattle.engine_states.specs.declared.state.Block.TheVariants as state_block
use Rattle.engine_states.specs.declared.state.Inline.TheVariants as state_inline
use Rattle.engine_states.specs.declared.state.Name.TheVariants.{Block}
use Rattle.engine_states.specs.declared.state.State.TheVariants as states
use Rattle.markdown_engine.specs.Machine.{checks}
use Rattle.state_table.specs.BlockWords.{string_link}
use Rattle.state_flow.specs.Flows.{flows_bodies}
use Rattle.state_flow_leaves.specs.RawFlow.{ends_meta}
use Rattle.state_verdicts.specs.CodeFenced.{fencing}
use Rattle.state_verdicts.specs.MathFlow.{math_fencing}

abbrev pub start : Name
start = Block state_block.RawFlowStart

abbrev pub before : Name
before = Block state_block.RawFlowBeforeSequenceOpen

abbrev pub sequence : Name
sequence = Block state_block.RawFlowSequenceOpen

abbrev pub info_before : Name
info_before = Block state_block.RawFlowInfoBefore

abbrev pub info : Name
info = Block state_block.RawFlowInfo

abbrev pub meta_before : Name
meta_before = Block state_block.RawFlowMetaBefore

abbrev pub meta : Name
meta = Block state_block.RawFlowMeta

-- over the first byte of the fence
abbrev pub opened : ℕ → Config Flows → Config Flows
opened m c = past_byte (with_enter names.CodeFencedFenceSequence None (with_enter names.CodeFencedFence None (with_enter names.CodeFenced None
    (record c { tokenize_state = fencing m 1 c.tokenize_state.size_c c.tokenize_state }))))

-- the same of math
abbrev pub math_opened : Config Flows → Config Flows
math_opened c = past_byte (with_enter names.MathFlowFenceSequence None (with_enter names.MathFlowFence None (with_enter names.MathFlow None
    (record c { tokenize_state = math_fencing 1 c.tokenize_state.size_c c.tokenize_state }))))

-- over a further one
abbrev pub longer : Config Flows → Config Flows
longer c = past_byte (record c { tokenize_state = record c.tokenize_state { size = more c.tokenize_state.size } })

-- at the end of the fence
abbrev pub closed : Config Flows → Config Flows
closed c = with_exit c.tokenize_state.token_3 c

-- before white space
abbrev pub readied : Config Flows → Config Flows
readied c = record c { tokenize_state = record c.tokenize_state { size_c = no_limit } }

-- at the first byte of the info, or of what follows it
abbrev pub info_begun : Config Flows → Config Flows
info_begun c = with_enter names.Data (string_link c) (with_enter c.tokenize_state.token_4 None c)

abbrev pub meta_begun : Config Flows → Config Flows
meta_begun c = with_enter names.Data (string_link c) (with_enter c.tokenize_state.token_5 None c)

-- at the end of these
abbrev pub info_ended : Config Flows → Config Flows
info_ended c = with_exit c.tokenize_state.token_4 (with_exit names.Data c)

abbrev pub meta_ended : Config Flows → Config Flows
meta_ended c = with_exit c.tokenize_state.token_5 (with_exit names.Data c)

-- at the end of the opening line
abbrev pub line_ended : Config Flows → Config Flows
line_ended c = record (with_exit c.tokenize_state.token_2 c) { concrete = true }

-- a byte that no info of such a fence may have
abbrev pub is_bad : ℕ → ℕ → Bool
is_bad m b = (b == m) && (m == 96)

module _ {T : Type 0} (x : Context T) where
  pub start_does : (c : Config Flows) → run (flows_bodies x start) c ≡ plain c (retry state_block.RawFlowBeforeSequenceOpen)
  unfolding flows_bodies
  start_does c = refl

  pub before_none : (c : Config Flows) → c.current ≡ None → run (flows_bodies x before) c ≡ plain c states.Nok
  unfolding flows_bodies
  before_none c h = rw h refl

  pub before_other : (b : ℕ) (c : Config Flows) → c.current ≡ Some b → (b == 96) ≡ false → (b == 126) ≡ false → (b == 36) ≡ false
      → run (flows_bodies x before) c ≡ plain c states.Nok
  unfolding flows_bodies
  before_other b c h k l m = rw (h, k, l, m) refl

  pub before_backtick : (c : Config Flows) (on : Bool) → c.current ≡ Some 96 → x.options.constructs.code_fenced ≡ on
      → run (flows_bodies x before) c ≡ (if on then plain (opened 96 c) (next state_block.RawFlowSequenceOpen) else plain c states.Nok)
  unfolding flows_bodies
  before_backtick c on h k = rw (h, k) refl

  pub before_tilde : (c : Config Flows) (on : Bool) → c.current ≡ Some 126 → x.options.constructs.code_fenced ≡ on
      → run (flows_bodies x before) c ≡ (if on then plain (opened 126 c) (next state_block.RawFlowSequenceOpen) else plain c states.Nok)
  unfolding flows_bodies
  before_tilde c on h k = rw (h, k) refl

  pub before_dollar : (c : Config Flows) (on : Bool) → c.current ≡ Some 36 → x.options.constructs.math_flow ≡ on
      → run (flows_bodies x before) c ≡ (if on then plain (math_opened c) (next state_block.RawFlowSequenceOpen) else plain c states.Nok)
  unfolding flows_bodies
  before_dollar c on h k = rw (h, k) refl

  pub sequence_longer : (b : ℕ) (c : Config Flows) → c.current ≡ Some b → (b == c.tokenize_state.marker) ≡ true
      → run (flows_bodies x sequence) c ≡ plain (longer c) (next state_block.RawFlowSequenceOpen)
  unfolding flows_bodies
  sequence_longer b c h k = rw (h, k) refl

  pub sequence_none : (c : Config Flows) (few : Bool) → c.current ≡ None → (c.tokenize_state.marker == 36) ≡ false → nat_lt c.tokenize_state.size 3 ≡ few
      → run (flows_bodies x sequence) c ≡ (if few then plain c states.Nok else plain (closed c) (retry state_block.RawFlowInfoBefore))
  unfolding flows_bodies
  sequence_none c few h k l = rw (h, k, l) refl

  pub sequence_other : (b : ℕ) (c : Config Flows) (few : Bool) → c.current ≡ Some b → (b == c.tokenize_state.marker) ≡ false
      → (c.tokenize_state.marker == 36) ≡ false → nat_lt c.tokenize_state.size 3 ≡ few → is_space_or_tab b ≡ false
      → run (flows_bodies x sequence) c ≡ (if few then plain c states.Nok else plain (closed c) (retry state_block.RawFlowInfoBefore))
  unfolding flows_bodies
  sequence_other b c few h k l m n = rw (h, k, l, m, n) refl

  pub sequence_white : (b : ℕ) (c : Config Flows) (few : Bool) → c.current ≡ Some b → (b == c.tokenize_state.marker) ≡ false
      → (c.tokenize_state.marker == 36) ≡ false → nat_lt c.tokenize_state.size 3 ≡ few → is_space_or_tab b ≡ true
      → run (flows_bodies x sequence) c ≡ (if few then plain c states.Nok
      else tries (next state_block.RawFlowInfoBefore) states.Nok (readied (closed c)) (part state_inline.SpaceOrTabStart))
  unfolding flows_bodies
  sequence_white b c few h k l m n = rw (h, k, l, m, n) refl

  -- the same after dollars, of which there are at least two
  pub dollars_none : (c : Config Flows) (few : Bool) → c.current ≡ None → (c.tokenize_state.marker == 36) ≡ true → nat_lt c.tokenize_state.size 2 ≡ few
      → run (flows_bodies x sequence) c ≡ (if few then plain c states.Nok else plain (closed c) (retry state_block.RawFlowMetaBefore))
  unfolding flows_bodies
  dollars_none c few h k l = rw (h, k, l) refl

  pub dollars_other : (b : ℕ) (c : Config Flows) (few : Bool) → c.current ≡ Some b → (b == c.tokenize_state.marker) ≡ false
      → (c.tokenize_state.marker == 36) ≡ true → nat_lt c.tokenize_state.size 2 ≡ few → is_space_or_tab b ≡ false
      → run (flows_bodies x sequence) c ≡ (if few then plain c states.Nok else plain (closed c) (retry state_block.RawFlowMetaBefore))
  unfolding flows_bodies
  dollars_other b c few h k l m n = rw (h, k, l, m, n) refl

  pub dollars_white : (b : ℕ) (c : Config Flows) (few : Bool) → c.current ≡ Some b → (b == c.tokenize_state.marker) ≡ false
      → (c.tokenize_state.marker == 36) ≡ true → nat_lt c.tokenize_state.size 2 ≡ few → is_space_or_tab b ≡ true
      → run (flows_bodies x sequence) c ≡ (if few then plain c states.Nok
      else tries (next state_block.RawFlowMetaBefore) states.Nok (readied (closed c)) (part state_inline.SpaceOrTabStart))
  unfolding flows_bodies
  dollars_white b c few h k l m n = rw (h, k, l, m, n) refl

  pub info_before_none : (c : Config Flows) → c.current ≡ None → run (flows_bodies x info_before) c
      ≡ checks (next state_block.RawFlowAtNonLazyBreak) (next state_block.RawFlowAfter) (line_ended c) (retry state_block.NonLazyContinuationStart)
  unfolding flows_bodies
  info_before_none c h = rw h refl

  pub info_before_line : (c : Config Flows) → c.current ≡ Some 10 → run (flows_bodies x info_before) c
      ≡ checks (next state_block.RawFlowAtNonLazyBreak) (next state_block.RawFlowAfter) (line_ended c) (retry state_block.NonLazyContinuationStart)
  unfolding flows_bodies
  info_before_line c h = rw h refl

  pub info_before_goes : (b : ℕ) (c : Config Flows) (bad : Bool) → c.current ≡ Some b → (b == 10) ≡ false
      → is_bad c.tokenize_state.marker b ≡ bad
      → run (flows_bodies x info_before) c ≡ (if bad then plain c states.Nok else plain (past_byte (info_begun c)) (next state_block.RawFlowInfo))
  unfolding flows_bodies
  info_before_goes b c bad h k l = rw (h, k, l) refl

  pub info_none : (c : Config Flows) → c.current ≡ None → run (flows_bodies x info) c ≡ plain (info_ended c) (retry state_block.RawFlowInfoBefore)
  unfolding flows_bodies
  info_none c h = rw h refl

  pub info_line : (c : Config Flows) → c.current ≡ Some 10 → run (flows_bodies x info) c ≡ plain (info_ended c) (retry state_block.RawFlowInfoBefore)
  unfolding flows_bodies
  info_line c h = rw h refl

  pub info_white : (b : ℕ) (c : Config Flows) → c.current ≡ Some b → (b == 10) ≡ false → is_space_or_tab b ≡ true
      → run (flows_bodies x info) c
      ≡ tries (next state_block.RawFlowMetaBefore) states.Nok (readied (info_ended c)) (part state_inline.SpaceOrTabStart)
  unfolding flows_bodies
  info_white b c h k l = rw (h, k, l) refl

  pub info_goes : (b : ℕ) (c : Config Flows) (bad : Bool) → c.current ≡ Some b → (b == 10) ≡ false → is_space_or_tab b ≡ false
      → is_bad c.tokenize_state.marker b ≡ bad
      → run (flows_bodies x info) c ≡ (if bad then plain c states.Nok else plain (past_byte c) (next state_block.RawFlowInfo))
  unfolding flows_bodies
  info_goes b c bad h k l m = rw (h, k, l, m) refl

  pub meta_before_none : (c : Config Flows) → c.current ≡ None → run (flows_bodies x meta_before) c ≡ plain c (retry state_block.RawFlowInfoBefore)
  unfolding flows_bodies
  meta_before_none c h = rw h refl

  pub meta_before_line : (c : Config Flows) → c.current ≡ Some 10 → run (flows_bodies x meta_before) c ≡ plain c (retry state_block.RawFlowInfoBefore)
  unfolding flows_bodies
  meta_before_line c h = rw h refl

  pub meta_before_goes : (b : ℕ) (c : Config Flows) (bad : Bool) → c.current ≡ Some b → (b == 10) ≡ false
      → ((b == c.tokenize_state.marker) && ((c.tokenize_state.marker == 96) || (c.tokenize_state.marker == 36))) ≡ bad
      → run (flows_bodies x meta_before) c ≡ (if bad then plain c states.Nok else plain (past_byte (meta_begun c)) (next state_block.RawFlowMeta))
  unfolding flows_bodies
  meta_before_goes b c bad h k l = rw (h, k, l) refl

  pub meta_none : (c : Config Flows) → c.current ≡ None → run (flows_bodies x meta) c ≡ plain (meta_ended c) (retry state_block.RawFlowInfoBefore)
  unfolding flows_bodies
  meta_none c h = rw h refl

  pub meta_line : (c : Config Flows) → c.current ≡ Some 10 → run (flows_bodies x meta) c ≡ plain (meta_ended c) (retry state_block.RawFlowInfoBefore)
  unfolding flows_bodies
  meta_line c h = rw h refl

  -- at the white space at the end of the line
  pub meta_white : (b : ℕ) (c : Config Flows) → c.current ≡ Some b → (b == 10) ≡ false → is_space_or_tab b ≡ true → ends_meta x.bytes c ≡ true
      → run (flows_bodies x meta) c
      ≡ tries (next state_block.RawFlowInfoBefore) states.Nok (readied (meta_ended c)) (part state_inline.SpaceOrTabStart)
  unfolding flows_bodies
  meta_white b c h k l m = rw (m, h, k, l) refl

  pub meta_goes : (b : ℕ) (c : Config Flows) (bad : Bool) → c.current ≡ Some b → (b == 10) ≡ false → ends_meta x.bytes c ≡ false
      → ((b == c.tokenize_state.marker) && ((c.tokenize_state.marker == 96) || (c.tokenize_state.marker == 36))) ≡ bad
      → run (flows_bodies x meta) c ≡ (if bad then plain c states.Nok else plain (past_byte c) (next state_block.RawFlowMeta))
  unfolding flows_bodies
  meta_goes b c bad h k l m = rw (l, h, k, m) refl
