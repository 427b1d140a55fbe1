-- What holds of the leaves that the constructs that hold no other make.
use Rattle.std.proofs.Common.{◌≡◌, ℕ, Bool, true, false, cond, not, ◌&&◌, ◌==◌, List, [], ◌∷◌, map, Option, None, Some, length, take, drop, refl, ◌+◌, ◌-◌}
use Rattle.std.proofs.lemmas.Bool.{cond_both, and_parts}
use Rattle.markdown_options.specs.declared.configuration.Constructs.{Constructs}
use Rattle.definition_text.specs.Columns.{indent}
use Rattle.definition_text.specs.Content.{Part, text_before, up_to, is_eol}
use Rattle.definition_text.specs.Runs.{run, after_run}
use Rattle.definition_text.specs.InlineCode.{InlineCode, codes_of}
use Rattle.definition_inline.specs.Inline.{InlineLeaf, Data, Escape, Character, Autolink, EscapedBreak, TrailingBreak, LineEnd, Found, leaf, or_else}
use Rattle.definition_inline.specs.CharacterEscape.{escape_at}
use Rattle.definition_inline.specs.CharacterReference.{Names, CharacterReference, reference_form, reference_text, reference_leaf, reference_of, reference_at}
use Rattle.definition_inline.specs.CodeText.{run_of, raw_part, raw_leaf, raw_at, code_text_at}
use Rattle.definition_inline.specs.MathText.{may_open_math, math_text_at}
use Rattle.definition_inline.specs.Autolink.{uri_end, email_end, closed_autolink, autolink_after, autolink_at}
use Rattle.definition_inline.specs.HtmlText.{html_byte, html_end, html_leaf, html_text_at}
use Rattle.definition_inline.specs.HardBreak.{line_end_at, escaped_break_at, is_trailing_break, line_spaces_at}
use Rattle.definition_inline.specs.GfmAutolinkLiteral.{literal_at}
use Rattle.definition_inline.specs.Scan.{InlineContext, leaf_at, leaf_here}
use Rattle.definition_inline.specs.MayStand.{leaf_may_stand}
use Rattle.definition_inline.proofs.GfmAutolinkLiteral.{any_literal}
use Rattle.definition_text.proofs.Each.{Each, WhereSome, each_map, where_passed}

-- what only stands where a construct is on, and more holds
guarded : {A : Type 0} (P : A → Type 0) (on more : Bool) (x : A) → (on ≡ true → P x) → WhereSome P (cond (on && more) (Some x) None)
guarded P on more x p = cond_both (on && more) (Some x) None (WhereSome P) (λ e. p (and_parts on more e).0) (λ _. tt)

-- ---- constructs of contents and strings

module _ (P : InlineLeaf → Type 0) where
  -- what begins here, if anything does
  abbrev pub Begins : Option Found → Type 0
  Begins o = WhereSome (λ (found : Found). Each P found.parts) o

  pub either_begins : (a b : Option Found) → Begins a → Begins b → Begins (or_else a b)
  either_begins None b p q = q
  either_begins (Some found) b p q = p

  pub any_escape : (on : Constructs) → (on.character_escape ≡ true → (b : ℕ) → P (Escape b)) → (content : List ℕ) → Begins (escape_at on content)
  any_escape on h [] = tt
  any_escape on h (c ∷ []) = tt
  any_escape on h (c ∷ next ∷ cs) = guarded (λ (found : Found). Each P found.parts) on.character_escape _ (leaf (Escape next ∷ []) 2) (λ e. (h e next, tt))

  any_text : (size : ℕ) (text : Option (List ℕ)) → ((text : List ℕ) → P (Character text)) → Begins (reference_leaf size text)
  any_text size None h = tt
  any_text size (Some text) h = (h text, tt)

  any_reference_of : (names : Names) (content : List ℕ) (found : Option CharacterReference) → ((text : List ℕ) → P (Character text))
      → Begins (reference_of names content found)
  any_reference_of names content None h = tt
  any_reference_of names content (Some found) h = any_text (length content - length found.rest) (reference_text names found.name) h

  pub any_reference : (on : Constructs) → (on.character_reference ≡ true → (text : List ℕ) → P (Character text)) → (names : Names) (content : List ℕ)
      → Begins (reference_at on names content)
  any_reference on h names content =
      cond_both on.character_reference (reference_of names content (reference_form content)) None Begins
      (λ e. any_reference_of names content (reference_form content) (h e)) (λ _. tt)

  pub any_line_end : ((code : ℕ) → is_eol code ≡ true → P (LineEnd code)) → (content : List ℕ) → Begins (line_end_at content)
  any_line_end h [] = tt
  any_line_end h (c ∷ cs) = cond_both (is_eol c) (Some (leaf (LineEnd c ∷ []) (1 + indent cs))) None Begins (λ e. (h c e, tt)) (λ _. tt)

-- ---- constructs of contents alone

module _ (on : Constructs) where
  -- the construct of a leaf is on
  abbrev pub LeafStands : InlineLeaf → Type 0
  LeafStands part = leaf_may_stand on part ≡ true

  abbrev FoundStands : Found → Type 0
  FoundStands found = Each LeafStands found.parts

  abbrev BeginsWell : Option Found → Type 0
  BeginsWell o = Begins LeafStands o

  begin_or : (a b : Option Found) → BeginsWell a → BeginsWell b → BeginsWell (or_else a b)
  begin_or a b p q = either_begins LeafStands a b p q

  break_stands : (content : List ℕ) → BeginsWell (escaped_break_at on content)
  break_stands [] = tt
  break_stands (c ∷ cs) = guarded FoundStands on.hard_break_escape _ (leaf (EscapedBreak ∷ []) 1) (λ e. (e, tt))

  raw_stands : (marker n : ℕ) (content : List ℕ) (found : Option Part) → ((text : List ℕ) → LeafStands (raw_part marker text))
      → FoundStands (raw_leaf marker n content found)
  raw_stands marker n content None h = each_map LeafStands Data (take n content) (λ b. refl)
  raw_stands marker n content (Some found) h = (h found.text, tt)

  raw_begins : (marker : ℕ) (may_open : Bool) (content : List ℕ) → (may_open ≡ true → (text : List ℕ) → LeafStands (raw_part marker text))
      → BeginsWell (raw_at marker may_open content)
  raw_begins marker may_open content h =
      let n = run marker content in
      let rest = after_run marker content in
      let found : Option Part = up_to rest (run_of marker n false rest) in
      guarded FoundStands may_open (not (n == 0)) (raw_leaf marker n content found) (λ e. raw_stands marker n content found (h e))

  closed_stands : (is_email : Bool) (content : List ℕ) (rest : Option (List ℕ)) → on.autolink ≡ true → BeginsWell (closed_autolink is_email content rest)
  closed_stands is_email content None e = tt
  closed_stands is_email content (Some rest) e =
      where_passed FoundStands _ (leaf (Autolink is_email (text_before content rest) ∷ []) (length (text_before content rest) + 2)) (e, tt)

  autolink_stands : (content : List ℕ) → BeginsWell (autolink_at on content)
  autolink_stands content =
      let inner = drop 1 content in
      cond_both (on.autolink && _) (autolink_after inner) None BeginsWell
      (λ e. begin_or (closed_autolink false inner (uri_end inner)) (closed_autolink true inner (email_end inner))
      (closed_stands false inner (uri_end inner) (and_parts on.autolink _ e).0) (closed_stands true inner (email_end inner) (and_parts on.autolink _ e).0))
      (λ _. tt)

  html_stands : (content : List ℕ) (rest : Option (List ℕ)) → on.html_text ≡ true → BeginsWell (html_leaf content rest)
  html_stands content None e = tt
  html_stands content (Some rest) e = (e, tt)

  html_begins : (content : List ℕ) → BeginsWell (html_text_at on content)
  html_begins content =
      let rest = html_end (map html_byte content) in
      cond_both (on.html_text && _) (html_leaf content rest) None BeginsWell (λ e. html_stands content rest (and_parts on.html_text _ e).0) (λ _. tt)

  spaces_stand : (content : List ℕ) → BeginsWell (line_spaces_at on content)
  spaces_stand content =
      let test = is_trailing_break content in
      where_passed FoundStands _ (leaf (cond (on.hard_break_trailing && test) (TrailingBreak ∷ []) []) (indent content))
      (cond_both (on.hard_break_trailing && test) (TrailingBreak ∷ []) [] (Each LeafStands)
      (λ e. ((and_parts on.hard_break_trailing test e).0, tt)) (λ _. tt))

-- what begins at a place of a content
pub leaf_stands : (context : InlineContext) (content : List InlineCode) → Begins (LeafStands context.options.constructs) (leaf_here context content)
leaf_stands context content =
    let on = context.options.constructs in
    let cs = codes_of content in
    let math = may_open_math context.options (run 36 cs) in
    begin_or on (leaf_at context cs) (literal_at on content)
    (begin_or on (escape_at on cs) _ (any_escape (LeafStands on) on (λ e b. e) cs)
    (begin_or on (escaped_break_at on cs) _ (break_stands on cs)
    (begin_or on (reference_at on context.names cs) _ (any_reference (LeafStands on) on (λ e text. e) context.names cs)
    (begin_or on (code_text_at on cs) _ (raw_begins on 96 on.code_text cs (λ e text. e))
    (begin_or on (math_text_at context.options cs) _ (raw_begins on 36 math cs (λ e text. (and_parts on.math_text _ e).0))
    (begin_or on (autolink_at on cs) _ (autolink_stands on cs)
    (begin_or on (html_text_at on cs) _ (html_begins on cs)
    (begin_or on (line_end_at cs) (line_spaces_at on cs) (any_line_end (LeafStands on) (λ code e. e) cs) (spaces_stand on cs)))))))))
    (any_literal (Begins (LeafStands on)) on content tt (λ kind text size is. (is, tt)))
