-- Flow attempts the blocks that may begin with the byte at hand, in order.
use Rattle.std.proofs.Common.{◌≡◌, ℕ, true, false, ◌==◌, ◌||◌, List, [], ◌∷◌, Some, inl, inr, refl, sym, subst}
use Rattle.state_verdicts.proofs.BlockPrelude.{cases_Bool, Config, Context, eqb-true, Flows, is_space_or_tab, next, or_from, or_parts, plain, retry, run}
use Rattle.state_verdicts.proofs.BlockPrelude.{Text, tries}
use Rattle.engine_states.specs.declared.state.Block.{Block as BlockName}
use Rattle.engine_states.specs.declared.state.Block.TheVariants as state_block
use Rattle.engine_states.specs.declared.state.Name.TheVariants.{Block}
use Rattle.engine_states.specs.declared.state.State.TheVariants as states
use Rattle.state_flow.specs.Flows.{flows_bodies}
use Rattle.state_table.specs.BlockWords.{is_indented, is_white}
use Rattle.state_verdicts.specs.FlowChoices.{BlankLine, BlockStart, Chooses, CodeIndented, FlowIndentChoice, FlowStartChoice, FlowWhiteChoice, HeadingAtx}
use Rattle.state_verdicts.specs.FlowChoices.{Html, RawFlow, ThematicBreak, Underline, after_indent, all_starts, begins, goes_on, indented, may_begin, state_of, those_at}
use Rattle.state_verdicts.specs.FlowChoices.{unindented}
use Rattle.state_verdicts.proofs.BlockTurns.{does}
use Rattle.state_verdicts.proofs.AttemptTurns as turns

-- a table or content comes
abbrev table : BlockName
table = state_block.FlowBeforeGfmTable

-- a byte with which none of the blocks begins
record Apart (b : ℕ) : Type 0 where
  pub raw : may_begin RawFlow b ≡ false
  pub atx : may_begin HeadingAtx b ≡ false
  pub underline : may_begin Underline b ≡ false
  pub break : may_begin ThematicBreak b ≡ false
  pub html : (b == 60) ≡ false

-- whatever holds of each first byte and of each other byte
module _ (P : ℕ → Type 0) where
  record Each : Type 0 where
    pub dollar : P 36
    pub backtick : P 96
    pub tilde : P 126
    pub number_sign : P 35
    pub hyphen : P 45
    pub equals : P 61
    pub asterisk : P 42
    pub underscore : P 95
    pub less_than : P 60

  of_byte : (m b : ℕ) → (b == m) ≡ true → P m → P b
  of_byte m b h p = subst P (sym (eqb-true b m h)) p

  by_byte : Each → (b : ℕ) → (Apart b → P b) → P b
  by_byte each b other = elim (cases_Bool (b == 36)) [
    | inl h ↦ of_byte 36 b h each.dollar
    | inr not_36 ↦ elim (cases_Bool (b == 96)) [
      | inl h ↦ of_byte 96 b h each.backtick
      | inr not_96 ↦ elim (cases_Bool (b == 126)) [
        | inl h ↦ of_byte 126 b h each.tilde
        | inr not_126 ↦ elim (cases_Bool (b == 35)) [
          | inl h ↦ of_byte 35 b h each.number_sign
          | inr not_35 ↦ elim (cases_Bool (b == 45)) [
            | inl h ↦ of_byte 45 b h each.hyphen
            | inr not_45 ↦ elim (cases_Bool (b == 61)) [
              | inl h ↦ of_byte 61 b h each.equals
              | inr not_61 ↦ elim (cases_Bool (b == 42)) [
                | inl h ↦ of_byte 42 b h each.asterisk
                | inr not_42 ↦ elim (cases_Bool (b == 95)) [
                  | inl h ↦ of_byte 95 b h each.underscore
                  | inr not_95 ↦ elim (cases_Bool (b == 60)) [
                    | inl h ↦ of_byte 60 b h each.less_than
                    | inr not_60 ↦ other (record {
                      raw = or_from ((b == 36) || (b == 96)) (b == 126) (or_from (b == 36) (b == 96) not_36 not_96) not_126;
                      atx = not_35;
                      underline = or_from (b == 45) (b == 61) not_45 not_61;
                      break = or_from ((b == 42) || (b == 45)) (b == 95) (or_from (b == 42) (b == 45) not_42 not_45) not_95;
                      html = not_60;
                    })
                  ]
                ]
              ]
            ]
          ]
        ]
      ]
    ]
  ]

-- ---- what the states do

module _ {T : Type 0} (x : Context T) where
  atx_tries : (c : Config Flows) → run (flows_bodies x (Block state_block.FlowBeforeHeadingAtx)) c
      ≡ tries (next state_block.FlowAfter) (next table) c (retry (state_of HeadingAtx))
  unfolding flows_bodies
  atx_tries c = refl

  hyphen_tries : (c : Config Flows) → c.current ≡ Some 45 → run (flows_bodies x (Block state_block.FlowBeforeHeadingSetext)) c
      ≡ tries (next state_block.FlowAfter) (next state_block.FlowBeforeThematicBreak) c (retry (state_of Underline))
  unfolding flows_bodies
  hyphen_tries c h = rw h refl

  equals_tries : (c : Config Flows) → c.current ≡ Some 61 → run (flows_bodies x (Block state_block.FlowBeforeHeadingSetext)) c
      ≡ tries (next state_block.FlowAfter) (next table) c (retry (state_of Underline))
  unfolding flows_bodies
  equals_tries c h = rw h refl

  break_tries : (c : Config Flows) → run (flows_bodies x (Block state_block.FlowBeforeThematicBreak)) c
      ≡ tries (next state_block.FlowAfter) (next table) c (retry (state_of ThematicBreak))
  unfolding flows_bodies
  break_tries c = refl

  html_tries : (c : Config Flows) → c.current ≡ Some 60 → run (flows_bodies x (Block state_block.FlowBeforeHtml)) c
      ≡ tries (next state_block.FlowAfter) (next table) c (retry (state_of Html))
  unfolding flows_bodies
  html_tries c h = rw h refl

  blank_tries : (c : Config Flows) → run (flows_bodies x (Block state_block.FlowBlankLineBefore)) c
      ≡ tries (next state_block.FlowBlankLineAfter) (next state_block.FlowBeforeCodeIndented) c (retry (state_of BlankLine))
  unfolding flows_bodies
  blank_tries c = refl

  code_tries : (c : Config Flows) → run (flows_bodies x (Block state_block.FlowBeforeCodeIndented)) c
      ≡ tries (next state_block.FlowAfter) (next state_block.FlowBeforeHtml) c (retry (state_of CodeIndented))
  unfolding flows_bodies
  code_tries c = refl

  -- after the indent
  module _ (b : ℕ) (c : Config Flows) (here : c.current ≡ Some b) (black : is_space_or_tab b ≡ false)
      (short : is_indented x.options.constructs (indented c) ≡ false) where
    indent_raw : may_begin RawFlow b ≡ true → run (flows_bodies x (Block state_block.FlowBeforeRaw)) c
        ≡ tries (next state_block.FlowAfter) (next table) (indented c) (retry (state_of RawFlow))
    unfolding flows_bodies
    indent_raw h = rw (here, black, short, h) refl

    indent_atx : may_begin RawFlow b ≡ false → may_begin HeadingAtx b ≡ true
        → run (flows_bodies x (Block state_block.FlowBeforeRaw)) c ≡ plain (indented c) (retry state_block.FlowBeforeHeadingAtx)
    unfolding flows_bodies
    indent_atx h k = rw (here, black, short, h, k) refl

    indent_setext : may_begin RawFlow b ≡ false → may_begin HeadingAtx b ≡ false → may_begin Underline b ≡ true
        → run (flows_bodies x (Block state_block.FlowBeforeRaw)) c ≡ plain (indented c) (retry state_block.FlowBeforeHeadingSetext)
    unfolding flows_bodies
    indent_setext h k l = rw (here, black, short, h, k, l) refl

    indent_break : may_begin RawFlow b ≡ false → may_begin HeadingAtx b ≡ false → may_begin Underline b ≡ false → ((b == 42) || (b == 95)) ≡ true
        → run (flows_bodies x (Block state_block.FlowBeforeRaw)) c ≡ plain (indented c) (retry state_block.FlowBeforeThematicBreak)
    unfolding flows_bodies
    indent_break h k l m = rw (here, black, short, h, k, l, m) refl

    indent_other : may_begin RawFlow b ≡ false → may_begin HeadingAtx b ≡ false → may_begin Underline b ≡ false → ((b == 42) || (b == 95)) ≡ false
        → run (flows_bodies x (Block state_block.FlowBeforeRaw)) c ≡ plain (indented c) (retry table)
    unfolding flows_bodies
    indent_other h k l m = rw (here, black, short, h, k, l, m) refl

  -- at the start of a line
  module _ (b : ℕ) (c : Config Flows) (here : c.current ≡ Some b) where
    start_white : is_white b ≡ true → run (flows_bodies x (Block state_block.FlowStart)) c ≡ plain c (retry state_block.FlowBlankLineBefore)
    unfolding flows_bodies
    start_white h = rw (here, h) refl

    module _ (black : is_white b ≡ false) where
      start_html : (b == 60) ≡ true → run (flows_bodies x (Block state_block.FlowStart)) c ≡ plain (unindented c) (retry state_block.FlowBeforeHtml)
      unfolding flows_bodies
      start_html h = rw (here, black, h) refl

      start_raw : (b == 60) ≡ false → may_begin RawFlow b ≡ true → run (flows_bodies x (Block state_block.FlowStart)) c
          ≡ tries (next state_block.FlowAfter) (next table) (unindented c) (retry (state_of RawFlow))
      unfolding flows_bodies
      start_raw g h = rw (here, black, g, h) refl

      start_atx : (b == 60) ≡ false → may_begin RawFlow b ≡ false → may_begin HeadingAtx b ≡ true
          → run (flows_bodies x (Block state_block.FlowStart)) c ≡ plain (unindented c) (retry state_block.FlowBeforeHeadingAtx)
      unfolding flows_bodies
      start_atx g h k = rw (here, black, g, h, k) refl

      start_setext : (b == 60) ≡ false → may_begin RawFlow b ≡ false → may_begin HeadingAtx b ≡ false → may_begin Underline b ≡ true
          → run (flows_bodies x (Block state_block.FlowStart)) c ≡ plain (unindented c) (retry state_block.FlowBeforeHeadingSetext)
      unfolding flows_bodies
      start_setext g h k l = rw (here, black, g, h, k, l) refl

      start_break : (b == 60) ≡ false → may_begin RawFlow b ≡ false → may_begin HeadingAtx b ≡ false → may_begin Underline b ≡ false
          → ((b == 42) || (b == 95)) ≡ true
          → run (flows_bodies x (Block state_block.FlowStart)) c ≡ plain (unindented c) (retry state_block.FlowBeforeThematicBreak)
      unfolding flows_bodies
      start_break g h k l m = rw (here, black, g, h, k, l, m) refl

      start_other : (b == 60) ≡ false → may_begin RawFlow b ≡ false → may_begin HeadingAtx b ≡ false → may_begin Underline b ≡ false
          → ((b == 42) || (b == 95)) ≡ false → run (flows_bodies x (Block state_block.FlowStart)) c ≡ plain (unindented c) (retry table)
      unfolding flows_bodies
      start_other g h k l m = rw (here, black, g, h, k, l, m) refl

-- ---- the choices

module _ {T : Type 0} (x : Context T) (text : Text) where
  -- attempts at blocks, and then a table or content
  abbrev Among : Config Flows → BlockName → Config Flows → List BlockStart → Type 0
  Among c n d starts = Chooses x text c n d starts table

  attempts_one : (n mid other : BlockName) (c at : Config Flows) (s : BlockStart) (starts : List BlockStart)
      → run (flows_bodies x (Block n)) c ≡ tries (states.Next (goes_on s)) (next mid) at (retry (state_of s))
      → ((d : Config Flows) → Chooses x text d mid d starts other) → Chooses x text c n at (s ∷ starts) other
  attempts_one n mid other = turns.attempts_one (flows_bodies x) text begins goes_on (Block n) (Block mid) (Block other)

  nothing_more : (d : Config Flows) → Among d table d []
  nothing_more d = turns.attempts_none (flows_bodies x) text begins goes_on d (Block table)

  raw_only : (n : BlockName) (c d : Config Flows) → run (flows_bodies x (Block n)) c
      ≡ tries (next state_block.FlowAfter) (next table) d (retry (state_of RawFlow)) → Among c n d (RawFlow ∷ [])
  raw_only n c d h = attempts_one n table table c d RawFlow [] h nothing_more

  -- a state goes on to one by a byte
  goes_to : (n m : BlockName) (c d : Config Flows) (starts : List BlockStart) → run (flows_bodies x (Block n)) c ≡ plain d (retry m)
      → Among d m d starts → Among c n d starts
  goes_to n m c d starts h k = turns.attempts_from (flows_bodies x) text begins goes_on (does x text (Block n) c d (retry m) h) k

  atx_only : (d : Config Flows) → Among d state_block.FlowBeforeHeadingAtx d (HeadingAtx ∷ [])
  atx_only d = attempts_one state_block.FlowBeforeHeadingAtx table table d d HeadingAtx [] (atx_tries x d) nothing_more

  break_only : (d : Config Flows) → Among d state_block.FlowBeforeThematicBreak d (ThematicBreak ∷ [])
  break_only d = attempts_one state_block.FlowBeforeThematicBreak table table d d ThematicBreak [] (break_tries x d) nothing_more

  underline_only : (d : Config Flows) → d.current ≡ Some 61 → Among d state_block.FlowBeforeHeadingSetext d (Underline ∷ [])
  underline_only d h = attempts_one state_block.FlowBeforeHeadingSetext table table d d Underline [] (equals_tries x d h) nothing_more

  underline_or_break : (d : Config Flows) → d.current ≡ Some 45 → Among d state_block.FlowBeforeHeadingSetext d (Underline ∷ ThematicBreak ∷ [])
  underline_or_break d h =
      attempts_one state_block.FlowBeforeHeadingSetext state_block.FlowBeforeThematicBreak table d d Underline (ThematicBreak ∷ []) (hyphen_tries x d h)
      break_only

  html_only : (d : Config Flows) → d.current ≡ Some 60 → Among d state_block.FlowBeforeHtml d (Html ∷ [])
  html_only d h = attempts_one state_block.FlowBeforeHtml table table d d Html [] (html_tries x d h) nothing_more

  -- after the indent
  abbrev AfterIndent : ℕ → Type 0
  AfterIndent b = (c : Config Flows) → c.current ≡ Some b → is_space_or_tab b ≡ false → is_indented x.options.constructs (indented c) ≡ false
      → Among c state_block.FlowBeforeRaw (indented c) (those_at b after_indent)

  abbrev before_raw : BlockName
  before_raw = state_block.FlowBeforeRaw

  after_indent_each : Each AfterIndent
  after_indent_each = record {
    dollar = λ c h k l. raw_only before_raw c (indented c) (indent_raw x 36 c h k l refl);
    backtick = λ c h k l. raw_only before_raw c (indented c) (indent_raw x 96 c h k l refl);
    tilde = λ c h k l. raw_only before_raw c (indented c) (indent_raw x 126 c h k l refl);
    number_sign = λ c h k l. goes_to before_raw state_block.FlowBeforeHeadingAtx c (indented c) (HeadingAtx ∷ []) (indent_atx x 35 c h k l refl refl)
        (atx_only (indented c));
    hyphen = λ c h k l. goes_to before_raw state_block.FlowBeforeHeadingSetext c (indented c) (Underline ∷ ThematicBreak ∷ [])
        (indent_setext x 45 c h k l refl refl refl) (underline_or_break (indented c) h);
    equals = λ c h k l. goes_to before_raw state_block.FlowBeforeHeadingSetext c (indented c) (Underline ∷ []) (indent_setext x 61 c h k l refl refl refl)
        (underline_only (indented c) h);
    asterisk = λ c h k l. goes_to before_raw state_block.FlowBeforeThematicBreak c (indented c) (ThematicBreak ∷ [])
        (indent_break x 42 c h k l refl refl refl refl) (break_only (indented c));
    underscore = λ c h k l. goes_to before_raw state_block.FlowBeforeThematicBreak c (indented c) (ThematicBreak ∷ [])
        (indent_break x 95 c h k l refl refl refl refl) (break_only (indented c));
    less_than = λ c h k l. goes_to before_raw table c (indented c) [] (indent_other x 60 c h k l refl refl refl refl) (nothing_more (indented c));
  }

  break_apart : (b : ℕ) → may_begin ThematicBreak b ≡ false → ((b == 42) || (b == 95)) ≡ false
  break_apart b h =
      let last = or_parts ((b == 42) || (b == 45)) (b == 95) h in or_from (b == 42) (b == 95) (or_parts (b == 42) (b == 45) last.0).0 last.1

  none_at : (b : ℕ) → Apart b → those_at b after_indent ≡ []
  none_at b a = rw (a.raw, a.atx, a.underline, a.break) refl

  after_indent_other : (b : ℕ) → Apart b → AfterIndent b
  after_indent_other b a c h k l =
      subst (λ (ss : List BlockStart). Among c before_raw (indented c) ss) (sym (none_at b a))
      (goes_to before_raw table c (indented c) [] (indent_other x b c h k l a.raw a.atx a.underline (break_apart b a.break)) (nothing_more (indented c)))

  -- at the start of a line without white space
  abbrev AtStart : ℕ → Type 0
  AtStart b = (c : Config Flows) → c.current ≡ Some b → is_white b ≡ false → Among c state_block.FlowStart (unindented c) (those_at b all_starts)

  abbrev at_line : BlockName
  at_line = state_block.FlowStart

  at_start_each : Each AtStart
  at_start_each = record {
    dollar = λ c h k. raw_only at_line c (unindented c) (start_raw x 36 c h k refl refl);
    backtick = λ c h k. raw_only at_line c (unindented c) (start_raw x 96 c h k refl refl);
    tilde = λ c h k. raw_only at_line c (unindented c) (start_raw x 126 c h k refl refl);
    number_sign = λ c h k. goes_to at_line state_block.FlowBeforeHeadingAtx c (unindented c) (HeadingAtx ∷ []) (start_atx x 35 c h k refl refl refl)
        (atx_only (unindented c));
    hyphen = λ c h k. goes_to at_line state_block.FlowBeforeHeadingSetext c (unindented c) (Underline ∷ ThematicBreak ∷ [])
        (start_setext x 45 c h k refl refl refl refl) (underline_or_break (unindented c) h);
    equals = λ c h k. goes_to at_line state_block.FlowBeforeHeadingSetext c (unindented c) (Underline ∷ []) (start_setext x 61 c h k refl refl refl refl)
        (underline_only (unindented c) h);
    asterisk = λ c h k. goes_to at_line state_block.FlowBeforeThematicBreak c (unindented c) (ThematicBreak ∷ [])
        (start_break x 42 c h k refl refl refl refl refl) (break_only (unindented c));
    underscore = λ c h k. goes_to at_line state_block.FlowBeforeThematicBreak c (unindented c) (ThematicBreak ∷ [])
        (start_break x 95 c h k refl refl refl refl refl) (break_only (unindented c));
    less_than = λ c h k. goes_to at_line state_block.FlowBeforeHtml c (unindented c) (Html ∷ []) (start_html x 60 c h k refl) (html_only (unindented c) h);
  }

  all_none_at : (b : ℕ) → is_white b ≡ false → Apart b → those_at b all_starts ≡ []
  all_none_at b h a =
      let black = (or_parts (is_space_or_tab b) (b == 10) h).0 in rw (h, black, a.html, a.raw, a.atx, a.underline, a.break) refl

  at_start_other : (b : ℕ) → Apart b → AtStart b
  at_start_other b a c h k =
      subst (λ (ss : List BlockStart). Among c at_line (unindented c) ss) (sym (all_none_at b k a))
      (goes_to at_line table c (unindented c) [] (start_other x b c h k a.html a.raw a.atx a.underline (break_apart b a.break)) (nothing_more (unindented c)))

pub flow_indent_choice : (T : Type 0) → FlowIndentChoice T
flow_indent_choice T x text c b h k l = by_byte (AfterIndent x text) (after_indent_each x text) b (after_indent_other x text b) c h k l

pub flow_start_choice : (T : Type 0) → FlowStartChoice T
flow_start_choice T x text c b h k = by_byte (AtStart x text) (at_start_each x text) b (at_start_other x text b) c h k

pub flow_white_choice : (T : Type 0) → FlowWhiteChoice T
flow_white_choice T x text c b h k =
    turns.attempts_from (flows_bodies x) text begins goes_on
    (does x text (Block state_block.FlowStart) c c (retry state_block.FlowBlankLineBefore) (start_white x b c h k))
    (attempts_one x text state_block.FlowBlankLineBefore state_block.FlowBeforeCodeIndented state_block.FlowBeforeHtml c c BlankLine (CodeIndented ∷ [])
    (blank_tries x c)
    (λ d. attempts_one x text state_block.FlowBeforeCodeIndented state_block.FlowBeforeHtml state_block.FlowBeforeHtml d d CodeIndented [] (code_tries x d)
    (λ e. turns.attempts_none (flows_bodies x) text begins goes_on e (Block state_block.FlowBeforeHtml))))
