-- A text attempts the constructs that may begin with the byte at hand, in order.
use Rattle.std.proofs.Common.{◌≡◌, ℕ, Bool, true, false, ◌==◌, List, [], ◌∷◌, Option, Some, inl, inr, refl, sym, subst}
use Rattle.state_verdicts.proofs.Prelude.{cases_Bool, Config, Context, eqb-true, Inlines, plain, run, Text, tries}
use Rattle.engine_states.specs.declared.state.Inline.{Inline as InlineName}
use Rattle.engine_states.specs.declared.state.Inline.TheVariants as state_inline
use Rattle.engine_states.specs.declared.state.Name.TheVariants.{Inline}
use Rattle.engine_states.specs.declared.state.State.TheVariants as states
use Rattle.state_inline.specs.Inlines.{bodies}
use Rattle.state_verdicts.specs.Attempts.{ChoosesAmong}
use Rattle.state_verdicts.specs.TextChoices.{Attention, Autolink, Escape, Footnote, HardBreak, Html, Image, LabelEnd, Link, PartStart, Protocol, RawText}
use Rattle.state_verdicts.specs.TextChoices.{Reference, TextChoice, Www, all_parts, begins, goes_on, parts_at}
use Rattle.state_verdicts.proofs.AttemptTurns.{attempts_from, attempts_none, attempts_one}
use Rattle.state_verdicts.proofs.MachineTurns.{does}

-- a byte with which no construct begins
record Apart (b : ℕ) : Type 0 where
  pub exclamation_mark : (b == 33) ≡ false
  pub dollar : (b == 36) ≡ false
  pub backtick : (b == 96) ≡ false
  pub ampersand : (b == 38) ≡ false
  pub asterisk : (b == 42) ≡ false
  pub underscore : (b == 95) ≡ false
  pub tilde : (b == 126) ≡ false
  pub equals : (b == 61) ≡ false
  pub less_than : (b == 60) ≡ false
  pub capital_h : (b == 72) ≡ false
  pub small_h : (b == 104) ≡ false
  pub capital_w : (b == 87) ≡ false
  pub small_w : (b == 119) ≡ false
  pub left_bracket : (b == 91) ≡ false
  pub backslash : (b == 92) ≡ false
  pub right_bracket : (b == 93) ≡ false

module _ (P : ℕ → Type 0) where
  -- what holds of each first byte
  record Each : Type 0 where
    pub exclamation_mark : P 33
    pub dollar : P 36
    pub backtick : P 96
    pub ampersand : P 38
    pub asterisk : P 42
    pub underscore : P 95
    pub tilde : P 126
    pub equals : P 61
    pub less_than : P 60
    pub capital_h : P 72
    pub small_h : P 104
    pub capital_w : P 87
    pub small_w : P 119
    pub left_bracket : P 91
    pub backslash : P 92
    pub right_bracket : P 93

  of_byte : (m b : ℕ) → (b == m) ≡ true → P m → P b
  of_byte m b h p = subst P (sym (eqb-true b m h)) p

  by_byte : Each → (b : ℕ) → (Apart b → P b) → P b
  by_byte each b other =
      elim (cases_Bool (b == 33)) [ inl h ↦ of_byte 33 b h each.exclamation_mark | inr not_33 ↦ elim (cases_Bool (b == 36)) [ inl h ↦ of_byte 36 b h each.dollar | inr not_36 ↦ elim (cases_Bool (b == 96)) [ inl h ↦ of_byte 96 b h each.backtick | inr not_96 ↦ elim (cases_Bool (b == 38)) [ inl h ↦ of_byte 38 b h each.ampersand | inr not_38 ↦ elim (cases_Bool (b == 42)) [ inl h ↦ of_byte 42 b h each.asterisk | inr not_42 ↦ elim (cases_Bool (b == 95)) [ inl h ↦ of_byte 95 b h each.underscore | inr not_95 ↦ elim (cases_Bool (b == 126)) [ inl h ↦ of_byte 126 b h each.tilde | inr not_126 ↦ elim (cases_Bool (b == 61)) [ inl h ↦ of_byte 61 b h each.equals | inr not_61 ↦ elim (cases_Bool (b == 60)) [ inl h ↦ of_byte 60 b h each.less_than | inr not_60 ↦ elim (cases_Bool (b == 72)) [ inl h ↦ of_byte 72 b h each.capital_h | inr not_72 ↦ elim (cases_Bool (b == 104)) [ inl h ↦ of_byte 104 b h each.small_h | inr not_104 ↦ elim (cases_Bool (b == 87)) [ inl h ↦ of_byte 87 b h each.capital_w | inr not_87 ↦ elim (cases_Bool (b == 119)) [ inl h ↦ of_byte 119 b h each.small_w | inr not_119 ↦ elim (cases_Bool (b == 91)) [ inl h ↦ of_byte 91 b h each.left_bracket | inr not_91 ↦ elim (cases_Bool (b == 92)) [ inl h ↦ of_byte 92 b h each.backslash | inr not_92 ↦ elim (cases_Bool (b == 93)) [ inl h ↦ of_byte 93 b h each.right_bracket | inr not_93 ↦ other (record { exclamation_mark = not_33; dollar = not_36; backtick = not_96; ampersand = not_38; asterisk = not_42; underscore = not_95; tilde = not_126; equals = not_61; less_than = not_60; capital_h = not_72; small_h = not_104; capital_w = not_87; small_w = not_119; left_bracket = not_91; backslash = not_92; right_bracket = not_93 }) ] ] ] ] ] ] ] ] ] ] ] ] ] ] ] ]

-- ---- what the states do

module _ {T : Type 0} (texts : List ℕ → Option (List ℕ)) (is_punctuation : ℕ → Bool) (x : Context T) where
  -- a state attempts a construct, and then another state comes
  abbrev TriesOne : InlineName → Config Inlines → PartStart → InlineName → Type 0
  TriesOne n c s other = run (bodies texts is_punctuation x (Inline n)) c
      ≡ tries (states.Next (goes_on s)) (states.Next (Inline other)) c (states.Retry (begins s))

  at_exclamation_mark : (c : Config Inlines) → c.current ≡ Some 33 → TriesOne state_inline.TextBefore c Image state_inline.TextBeforeData
  unfolding bodies
  at_exclamation_mark c h = rw h refl

  at_dollar : (c : Config Inlines) → c.current ≡ Some 36 → TriesOne state_inline.TextBefore c RawText state_inline.TextBeforeData
  unfolding bodies
  at_dollar c h = rw h refl

  at_backtick : (c : Config Inlines) → c.current ≡ Some 96 → TriesOne state_inline.TextBefore c RawText state_inline.TextBeforeData
  unfolding bodies
  at_backtick c h = rw h refl

  at_ampersand : (c : Config Inlines) → c.current ≡ Some 38 → TriesOne state_inline.TextBefore c Reference state_inline.TextBeforeData
  unfolding bodies
  at_ampersand c h = rw h refl

  at_asterisk : (c : Config Inlines) → c.current ≡ Some 42 → TriesOne state_inline.TextBefore c Attention state_inline.TextBeforeData
  unfolding bodies
  at_asterisk c h = rw h refl

  at_underscore : (c : Config Inlines) → c.current ≡ Some 95 → TriesOne state_inline.TextBefore c Attention state_inline.TextBeforeData
  unfolding bodies
  at_underscore c h = rw h refl

  at_tilde : (c : Config Inlines) → c.current ≡ Some 126 → TriesOne state_inline.TextBefore c Attention state_inline.TextBeforeData
  unfolding bodies
  at_tilde c h = rw h refl

  at_equals : (c : Config Inlines) → c.current ≡ Some 61 → TriesOne state_inline.TextBefore c Attention state_inline.TextBeforeData
  unfolding bodies
  at_equals c h = rw h refl

  at_less_than : (c : Config Inlines) → c.current ≡ Some 60 → TriesOne state_inline.TextBefore c Autolink state_inline.TextBeforeHtml
  unfolding bodies
  at_less_than c h = rw h refl

  at_capital_h : (c : Config Inlines) → c.current ≡ Some 72 → TriesOne state_inline.TextBefore c Protocol state_inline.TextBeforeData
  unfolding bodies
  at_capital_h c h = rw h refl

  at_small_h : (c : Config Inlines) → c.current ≡ Some 104 → TriesOne state_inline.TextBefore c Protocol state_inline.TextBeforeData
  unfolding bodies
  at_small_h c h = rw h refl

  at_capital_w : (c : Config Inlines) → c.current ≡ Some 87 → TriesOne state_inline.TextBefore c Www state_inline.TextBeforeData
  unfolding bodies
  at_capital_w c h = rw h refl

  at_small_w : (c : Config Inlines) → c.current ≡ Some 119 → TriesOne state_inline.TextBefore c Www state_inline.TextBeforeData
  unfolding bodies
  at_small_w c h = rw h refl

  at_left_bracket : (c : Config Inlines) → c.current ≡ Some 91 → TriesOne state_inline.TextBefore c Footnote state_inline.TextBeforeLabelStartLink
  unfolding bodies
  at_left_bracket c h = rw h refl

  at_backslash : (c : Config Inlines) → c.current ≡ Some 92 → TriesOne state_inline.TextBefore c Escape state_inline.TextBeforeHardBreakEscape
  unfolding bodies
  at_backslash c h = rw h refl

  at_right_bracket : (c : Config Inlines) → c.current ≡ Some 93 → TriesOne state_inline.TextBefore c LabelEnd state_inline.TextBeforeData
  unfolding bodies
  at_right_bracket c h = rw h refl

  then_at_less_than : (c : Config Inlines) → TriesOne state_inline.TextBeforeHtml c Html state_inline.TextBeforeData
  unfolding bodies
  then_at_less_than c = refl

  then_at_left_bracket : (c : Config Inlines) → TriesOne state_inline.TextBeforeLabelStartLink c Link state_inline.TextBeforeData
  unfolding bodies
  then_at_left_bracket c = refl

  then_at_backslash : (c : Config Inlines) → TriesOne state_inline.TextBeforeHardBreakEscape c HardBreak state_inline.TextBeforeData
  unfolding bodies
  then_at_backslash c = refl

  at_other : (c : Config Inlines) (b : ℕ) → c.current ≡ Some b → Apart b
      → run (bodies texts is_punctuation x (Inline state_inline.TextBefore)) c ≡ plain c (states.Retry (Inline state_inline.TextBeforeData))
  unfolding bodies
  at_other c b h a = rw (h, a.exclamation_mark, a.dollar, a.backtick, a.ampersand, a.asterisk, a.underscore, a.tilde, a.equals, a.less_than, a.capital_h, a.small_h, a.capital_w, a.small_w, a.left_bracket, a.backslash, a.right_bracket) refl

-- ---- the choices

module _ {T : Type 0} (texts : List ℕ → Option (List ℕ)) (is_punctuation : ℕ → Bool) (x : Context T) (text : Text) where
  abbrev Among : Config Inlines → InlineName → List PartStart → Type 0
  Among c n starts = ChoosesAmong (bodies texts is_punctuation x) text begins goes_on c (Inline n) c starts (Inline state_inline.TextBeforeData)

  nothing_more : (c : Config Inlines) → Among c state_inline.TextBeforeData []
  nothing_more c = attempts_none (bodies texts is_punctuation x) text begins goes_on c (Inline state_inline.TextBeforeData)

  one : (n other : InlineName) (c : Config Inlines) (s : PartStart) (starts : List PartStart) → TriesOne texts is_punctuation x n c s other
      → ((d : Config Inlines) → Among d other starts) → Among c n (s ∷ starts)
  one n other c s starts h more =
      attempts_one (bodies texts is_punctuation x) text begins goes_on (Inline n) (Inline other) (Inline state_inline.TextBeforeData) c c s starts h more

  only : (c : Config Inlines) (s : PartStart) → TriesOne texts is_punctuation x state_inline.TextBefore c s state_inline.TextBeforeData
      → Among c state_inline.TextBefore (s ∷ [])
  only c s h = one state_inline.TextBefore state_inline.TextBeforeData c s [] h nothing_more

  abbrev AtByte : ℕ → Type 0
  AtByte b = (c : Config Inlines) → c.current ≡ Some b → Among c state_inline.TextBefore (parts_at b all_parts)

  each : Each AtByte
  each = record {
    exclamation_mark = λ c h. only c Image (at_exclamation_mark texts is_punctuation x c h);
    dollar = λ c h. only c RawText (at_dollar texts is_punctuation x c h);
    backtick = λ c h. only c RawText (at_backtick texts is_punctuation x c h);
    ampersand = λ c h. only c Reference (at_ampersand texts is_punctuation x c h);
    asterisk = λ c h. only c Attention (at_asterisk texts is_punctuation x c h);
    underscore = λ c h. only c Attention (at_underscore texts is_punctuation x c h);
    tilde = λ c h. only c Attention (at_tilde texts is_punctuation x c h);
    equals = λ c h. only c Attention (at_equals texts is_punctuation x c h);
    less_than = λ c h. one state_inline.TextBefore state_inline.TextBeforeHtml c Autolink (Html ∷ []) (at_less_than texts is_punctuation x c h)
        (λ d. one state_inline.TextBeforeHtml state_inline.TextBeforeData d Html [] (then_at_less_than texts is_punctuation x d) nothing_more);
    capital_h = λ c h. only c Protocol (at_capital_h texts is_punctuation x c h);
    small_h = λ c h. only c Protocol (at_small_h texts is_punctuation x c h);
    capital_w = λ c h. only c Www (at_capital_w texts is_punctuation x c h);
    small_w = λ c h. only c Www (at_small_w texts is_punctuation x c h);
    left_bracket = λ c h. one state_inline.TextBefore state_inline.TextBeforeLabelStartLink c Footnote (Link ∷ []) (at_left_bracket texts is_punctuation x c h)
        (λ d. one state_inline.TextBeforeLabelStartLink state_inline.TextBeforeData d Link [] (then_at_left_bracket texts is_punctuation x d) nothing_more);
    backslash = λ c h. one state_inline.TextBefore state_inline.TextBeforeHardBreakEscape c Escape (HardBreak ∷ []) (at_backslash texts is_punctuation x c h)
        (λ d. one state_inline.TextBeforeHardBreakEscape state_inline.TextBeforeData d HardBreak [] (then_at_backslash texts is_punctuation x d) nothing_more);
    right_bracket = λ c h. only c LabelEnd (at_right_bracket texts is_punctuation x c h);
  }

  none_at : (b : ℕ) → Apart b → parts_at b all_parts ≡ []
  none_at b a = rw (a.exclamation_mark, a.dollar, a.backtick, a.ampersand, a.asterisk, a.underscore, a.tilde, a.equals, a.less_than, a.capital_h, a.small_h, a.capital_w, a.small_w, a.left_bracket, a.backslash, a.right_bracket) refl

  other : (b : ℕ) → Apart b → AtByte b
  other b a c h = subst (λ (ss : List PartStart). Among c state_inline.TextBefore ss) (sym (none_at b a))
      (attempts_from (bodies texts is_punctuation x) text begins goes_on
      (does (bodies texts is_punctuation x) text (Inline state_inline.TextBefore) c c (states.Retry (Inline state_inline.TextBeforeData))
      (at_other texts is_punctuation x c b h a)) (nothing_more c))

pub text_choice : (T : Type 0) → TextChoice T
text_choice T texts is_punctuation x text c b h =
    by_byte (AtByte texts is_punctuation x text) (each texts is_punctuation x text) b (other texts is_punctuation x text b) c h
