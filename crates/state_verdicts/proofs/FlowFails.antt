-- An attempt at a block fails at a byte with which the block may not begin.
use Rattle.std.proofs.Common.{◌≡◌, ℕ, Bool, true, false, ◌==◌, ◌||◌, if◌then◌else◌, length, Some, None, refl}
use Rattle.state_verdicts.proofs.BlockPrelude.{Config, Context, Flows, is_space_or_tab, Name, or_parts, plain, retry, run, Text}
use Rattle.state_verdicts.proofs.BlockPrelude.{with_enter}
use Rattle.engine_events.specs.declared.event.Name.TheVariants as names
use Rattle.engine_states.specs.declared.state.Block.TheVariants as state_block
use Rattle.engine_states.specs.declared.state.Name.TheVariants.{Block}
use Rattle.engine_states.specs.declared.state.State.TheVariants as states
use Rattle.state_flow.specs.Flows.{flows_bodies}
use Rattle.state_left.specs.Before.{is_after_content}
use Rattle.state_table.specs.BlockWords.{indent_max}
use Rattle.state_verdicts.specs.BlockVerdicts.{Reads}
use Rattle.state_verdicts.specs.FlowChoices.{BlankLine, BlockStart, CodeIndented, FlowFailsLaw, HeadingAtx, Html, RawFlow, ThematicBreak, Underline, may_begin}
use Rattle.state_verdicts.specs.FlowChoices.{state_of}
use Rattle.state_verdicts.proofs.BlockTurns.{and_on, does, fails}

abbrev blank_start : Name
blank_start = Block state_block.BlankLineStart

abbrev blank_after : Name
blank_after = Block state_block.BlankLineAfter

abbrev code_start : Name
code_start = Block state_block.CodeIndentedStart

abbrev html_start : Name
html_start = Block state_block.HtmlFlowStart

abbrev html_before : Name
html_before = Block state_block.HtmlFlowBefore

abbrev raw_start : Name
raw_start = Block state_block.RawFlowStart

abbrev raw_before : Name
raw_before = Block state_block.RawFlowBeforeSequenceOpen

abbrev atx_start : Name
atx_start = Block state_block.HeadingAtxStart

abbrev atx_before : Name
atx_before = Block state_block.HeadingAtxBefore

abbrev setext_start : Name
setext_start = Block state_block.HeadingSetextStart

abbrev setext_before : Name
setext_before = Block state_block.HeadingSetextBefore

abbrev break_start : Name
break_start = Block state_block.ThematicBreakStart

abbrev break_before : Name
break_before = Block state_block.ThematicBreakBefore

-- HTML is entered, and the indent that it may have is kept
abbrev html_entered : Bool → Config Flows → Config Flows
html_entered code c =
    let d = with_enter names.HtmlFlowData None (with_enter names.HtmlFlow None c) in
    record d { tokenize_state = record d.tokenize_state { size_c = indent_max code } }

-- an underline is entered
abbrev underline_entered : Config Flows → Config Flows
underline_entered c =
    with_enter names.HeadingSetextUnderline None (record c { tokenize_state = record c.tokenize_state { start = length c.events } })

-- ---- what the states do

module _ {T : Type 0} (x : Context T) where
  blank_start_does : (b : ℕ) (c : Config Flows) → c.current ≡ Some b → is_space_or_tab b ≡ false
      → run (flows_bodies x blank_start) c ≡ plain c (states.Retry blank_after)
  unfolding flows_bodies
  blank_start_does b c h k = rw (h, k) refl

  blank_after_does : (b : ℕ) (c : Config Flows) → c.current ≡ Some b → (b == 10) ≡ false → run (flows_bodies x blank_after) c ≡ plain c states.Nok
  unfolding flows_bodies
  blank_after_does b c h k = rw (h, k) refl

  code_off : (c : Config Flows) → x.options.constructs.code_indented ≡ false → run (flows_bodies x code_start) c ≡ plain c states.Nok
  unfolding flows_bodies
  code_off c h = rw h refl

  code_on : (b : ℕ) (c : Config Flows) (in_text : Bool) → c.current ≡ Some b → is_space_or_tab b ≡ false → x.options.constructs.code_indented ≡ true
      → c.interrupt ≡ in_text → run (flows_bodies x code_start) c ≡ (if in_text then plain c states.Nok else plain c states.Nok)
  unfolding flows_bodies
  code_on b c in_text h k l m = rw (l, m, h, k) refl

  html_start_does : (c : Config Flows) (on : Bool) → x.options.constructs.html_flow ≡ on → run (flows_bodies x html_start) c
      ≡ (if on then plain (html_entered x.options.constructs.code_indented c) (states.Retry html_before) else plain c states.Nok)
  unfolding flows_bodies
  html_start_does c on h = rw h refl

  html_before_does : (b : ℕ) (c : Config Flows) → c.current ≡ Some b → (b == 60) ≡ false → is_space_or_tab b ≡ false
      → run (flows_bodies x html_before) c ≡ plain c states.Nok
  unfolding flows_bodies
  html_before_does b c h k l = rw (h, k, l) refl

  raw_start_does : (c : Config Flows) → run (flows_bodies x raw_start) c ≡ plain c (states.Retry raw_before)
  unfolding flows_bodies
  raw_start_does c = refl

  raw_before_does : (b : ℕ) (c : Config Flows) → c.current ≡ Some b → (b == 96) ≡ false → (b == 126) ≡ false → (b == 36) ≡ false
      → run (flows_bodies x raw_before) c ≡ plain c states.Nok
  unfolding flows_bodies
  raw_before_does b c h k l m = rw (h, k, l, m) refl

  atx_start_does : (c : Config Flows) (on : Bool) → x.options.constructs.heading_atx ≡ on
      → run (flows_bodies x atx_start) c ≡ (if on then plain (with_enter names.HeadingAtx None c) (states.Retry atx_before) else plain c states.Nok)
  unfolding flows_bodies
  atx_start_does c on h = rw h refl

  atx_before_does : (b : ℕ) (c : Config Flows) → c.current ≡ Some b → (b == 35) ≡ false → run (flows_bodies x atx_before) c ≡ plain c states.Nok
  unfolding flows_bodies
  atx_before_does b c h k = rw (h, k) refl

  setext_off : (c : Config Flows) → x.options.constructs.heading_setext ≡ false → run (flows_bodies x setext_start) c ≡ plain c states.Nok
  unfolding flows_bodies
  setext_off c h = rw h refl

  setext_lazy : (c : Config Flows) → x.options.constructs.heading_setext ≡ true → c.lazy ≡ true → run (flows_bodies x setext_start) c ≡ plain c states.Nok
  unfolding flows_bodies
  setext_lazy c h k = rw (h, k) refl

  setext_start_does : (c : Config Flows) (is : Bool) → x.options.constructs.heading_setext ≡ true → c.lazy ≡ false → is_after_content c.events ≡ is
      → run (flows_bodies x setext_start) c ≡ (if is then plain (underline_entered c) (states.Retry setext_before) else plain c states.Nok)
  unfolding flows_bodies
  setext_start_does c is h k l = rw (h, k, l) refl

  setext_before_does : (b : ℕ) (c : Config Flows) → c.current ≡ Some b → (b == 45) ≡ false → (b == 61) ≡ false
      → run (flows_bodies x setext_before) c ≡ plain c states.Nok
  unfolding flows_bodies
  setext_before_does b c h k l = rw (h, k, l) refl

  break_start_does : (c : Config Flows) (on : Bool) → x.options.constructs.thematic_break ≡ on
      → run (flows_bodies x break_start) c ≡ (if on then plain (with_enter names.ThematicBreak None c) (states.Retry break_before) else plain c states.Nok)
  unfolding flows_bodies
  break_start_does c on h = rw h refl

  break_before_does : (b : ℕ) (c : Config Flows) → c.current ≡ Some b → (b == 42) ≡ false → (b == 45) ≡ false → (b == 95) ≡ false
      → run (flows_bodies x break_before) c ≡ plain c states.Nok
  unfolding flows_bodies
  break_before_does b c h k l m = rw (h, k, l, m) refl

-- ---- the attempts

module _ {T : Type 0} (x : Context T) (text : Text) where
  abbrev Fails : Config Flows → BlockStart → Type 0
  Fails c s = (d : Config Flows) × Reads x text c (retry (state_of s)) d false

  -- a state fails at once
  at_once : (n : Name) (c : Config Flows) → run (flows_bodies x n) c ≡ plain c states.Nok → Reads x text c (states.Retry n) c false
  at_once n c h = fails x text c c (states.Retry n) (does x text n c c states.Nok h)

  -- a state goes on to one that fails
  then_fails : (m n : Name) (c d : Config Flows) → run (flows_bodies x m) c ≡ plain d (states.Retry n) → run (flows_bodies x n) d ≡ plain d states.Nok
      → Reads x text c (states.Retry m) d false
  then_fails m n c d h k =
      fails x text c d (states.Retry m) (and_on x text (does x text m c d (states.Retry n) h) (does x text n d d states.Nok k))

  module _ (c : Config Flows) (b : ℕ) (here : c.current ≡ Some b) where
    blank_fails : may_begin BlankLine b ≡ false → Fails c BlankLine
    blank_fails h =
        let apart = or_parts (is_space_or_tab b) (b == 10) h in
        (c, then_fails blank_start blank_after c c (blank_start_does x b c here apart.0) (blank_after_does x b c here apart.1))

    code_by : (on in_text : Bool) → x.options.constructs.code_indented ≡ on → c.interrupt ≡ in_text → is_space_or_tab b ≡ false → Fails c CodeIndented
    code_by false in_text h k l = (c, at_once code_start c (code_off x c h))
    code_by true true h k l = (c, at_once code_start c (code_on x b c true here l h k))
    code_by true false h k l = (c, at_once code_start c (code_on x b c false here l h k))

    html_by : (on : Bool) → x.options.constructs.html_flow ≡ on → may_begin Html b ≡ false → Fails c Html
    html_by false h k = (c, at_once html_start c (html_start_does x c false h))
    html_by true h k =
        let apart = or_parts (is_space_or_tab b) (b == 60) k in
        let d = html_entered x.options.constructs.code_indented c in
        (d, then_fails html_start html_before c d (html_start_does x c true h) (html_before_does x b d here apart.1 apart.0))

    raw_fails : may_begin RawFlow b ≡ false → Fails c RawFlow
    raw_fails h =
        let last = or_parts ((b == 36) || (b == 96)) (b == 126) h in
        let both = or_parts (b == 36) (b == 96) last.0 in
        (c, then_fails raw_start raw_before c c (raw_start_does x c) (raw_before_does x b c here both.1 last.1 both.0))

    atx_by : (on : Bool) → x.options.constructs.heading_atx ≡ on → may_begin HeadingAtx b ≡ false → Fails c HeadingAtx
    atx_by false h k = (c, at_once atx_start c (atx_start_does x c false h))
    atx_by true h k =
        let d = with_enter names.HeadingAtx None c in
        (d, then_fails atx_start atx_before c d (atx_start_does x c true h) (atx_before_does x b d here k))

    setext_by : (on lazy after : Bool) → x.options.constructs.heading_setext ≡ on → c.lazy ≡ lazy → is_after_content c.events ≡ after
        → may_begin Underline b ≡ false → Fails c Underline
    setext_by false lazy after h k l m = (c, at_once setext_start c (setext_off x c h))
    setext_by true true after h k l m = (c, at_once setext_start c (setext_lazy x c h k))
    setext_by true false false h k l m = (c, at_once setext_start c (setext_start_does x c false h k l))
    setext_by true false true h k l m =
        let apart = or_parts (b == 45) (b == 61) m in
        let d = underline_entered c in
        (d, then_fails setext_start setext_before c d (setext_start_does x c true h k l) (setext_before_does x b d here apart.0 apart.1))

    break_by : (on : Bool) → x.options.constructs.thematic_break ≡ on → may_begin ThematicBreak b ≡ false → Fails c ThematicBreak
    break_by false h k = (c, at_once break_start c (break_start_does x c false h))
    break_by true h k =
        let last = or_parts ((b == 42) || (b == 45)) (b == 95) k in
        let both = or_parts (b == 42) (b == 45) last.0 in
        let d = with_enter names.ThematicBreak None c in
        (d, then_fails break_start break_before c d (break_start_does x c true h) (break_before_does x b d here both.0 both.1 last.1))

    fails_at : (s : BlockStart) → may_begin s b ≡ false → Fails c s
    fails_at BlankLine h = blank_fails h
    fails_at CodeIndented h = code_by x.options.constructs.code_indented c.interrupt refl refl h
    fails_at Html h = html_by x.options.constructs.html_flow refl h
    fails_at RawFlow h = raw_fails h
    fails_at HeadingAtx h = atx_by x.options.constructs.heading_atx refl h
    fails_at Underline h = setext_by x.options.constructs.heading_setext c.lazy (is_after_content c.events) refl refl refl h
    fails_at ThematicBreak h = break_by x.options.constructs.thematic_break refl h

pub flow_fails_law : (T : Type 0) → FlowFailsLaw T
flow_fails_law T x text c b here s h = fails_at x text c b here s h
