-- Each row of a leaf has its form.
use Rattle.std.proofs.Common.{inl, inr, ◌≡◌, ℕ, ◌+◌, true, false, ◌&&◌, ◌||◌, List, [], ◌∷◌, map, None, Some, drop, refl, sym}
use Rattle.std.proofs.Common.{ap, ap₂, ◌∙◌, subst, Bool}
use Rattle.std.specs.Prelude.{◌==◌, nat_le}
use Rattle.std.proofs.lemmas.Bool.{cond_both, cond-false}
use Rattle.markdown_options.specs.declared.configuration.Constructs.{Constructs}
use Rattle.definition_text.specs.Columns.{is_white, indent, bare}
use Rattle.definition_text.specs.Content.{content_codes, is_eol, line_ending_code}
use Rattle.definition_text.specs.InlineCode.{InlineCode, codes_of}
use Rattle.definition_text.proofs.Each.{WhereSome}
use Rattle.definition_inline.specs.CharacterReference.{number_of, numbered_text}
use Rattle.definition_inline.specs.CodeText.{code_text}
use Rattle.definition_inline.specs.HardBreak.{ends_here, line_spaces_at}
use Rattle.definition_inline.specs.Inline.{InlineLeaf, Found, leaf}
use Rattle.definition_inline.specs.Inline as inline
use Rattle.definition_inline.specs.Scan.{InlineContext}
use Rattle.inline_leaves.specs.Leaves.{kind_view}
use Rattle.inline_leaves.specs.declared.leaf.LeafPart.TheVariants.{Escape, Character, Number, Code, Math, Unclosed, Autolink, Literal, Html, EscapedBreak}
use Rattle.inline_leaves.specs.declared.leaf.LeafPart.TheVariants.{TrailingBreak, LineEnd, Spaces}
use Rattle.parse_written.specs.Laid.{IsLeafLaid}
use Rattle.parse_written.specs.Leaves.{IsLineEnd}
use Rattle.parse_written.specs.Written.{AreSpaces}
use Rattle.parse_written.proofs.Codes.{codes_both}
use Rattle.parse_written.proofs.Forms.{differs, leaf_law}
use Rattle.parse_written.specs.RowLaws.{PartsLaw}
use Rattle.parse_written.specs.Parts.{AreEscapes, escaped, EndsLine}
use Rattle.parse_written.specs.Rows.{AreLeavesLaid}

module _ (context : InlineContext) where
  -- one leaf
  one_leaf : (part : InlineLeaf) (from to : List InlineCode) → AreLeavesLaid context (part ∷ []) from to → IsLeafLaid context part from to
  one_leaf part from to (next, is, same) = subst (λ x. IsLeafLaid context part from x) same is

  -- ---- escapes

  escapes : (text : List ℕ) (from to : List InlineCode) → AreLeavesLaid context (map inline.Escape text) from to → AreEscapes text from to
  escapes [] from to is = record { marked = record { codes = is; inline = tt }; marks = refl }
  escapes (b ∷ bs) from to (next, is, more) =
      let first = leaf_law context (inline.Escape b) from next is in
      let others = escapes bs next to more in
      let here = first.text.inline in
      record {
        marked = record {
          codes = codes_both (92 ∷ b ∷ []) (escaped bs) from next to first.text.codes others.marked.codes;
          inline = (here.0, (here.1.0, others.marked.inline));
        };
        marks = ap₂ (λ (s t : Bool). s && t) first.mark others.marks;
      }

  -- ---- line endings

  spaces_size : (on : Constructs) (content : List ℕ) → WhereSome (λ (found : Found). found.size ≡ indent content) (line_spaces_at on content)
  spaces_size on content =
      cond_both (nat_le 1 (indent content) && ends_here (bare content)) (Some (leaf _ (indent content))) None
      (WhereSome (λ (found : Found). found.size ≡ indent content)) (λ _. refl) (λ _. tt)

  pub spaces_after : (from to : List InlineCode) → AreSpaces context.options.constructs from to → to ≡ drop (indent (codes_of from)) from
  spaces_after from to spaces =
      let size : spaces.size ≡ indent (codes_of from) =
      subst (WhereSome (λ (found : Found). found.size ≡ indent (codes_of from))) spaces.here (spaces_size context.options.constructs (codes_of from)) in
      spaces.after ∙ ap (λ n. drop n from) size

  not_white : (c : ℕ) → is_eol c ≡ true → is_white c ≡ false
  not_white c ends =
      ap (λ b. b || (c == 9) || (c == 256)) (differs is_eol c 32 ends refl) ∙ ap (λ b. false || b || (c == 256)) (differs is_eol c 9 ends refl)
      ∙ ap (λ b. false || false || b) (differs is_eol c 256 ends refl)

  none_before : (code : ℕ) (from to : List InlineCode) → IsLineEnd code from to → from ≡ drop (indent (codes_of from)) from
  none_before code [] to line = refl
  none_before code (c ∷ cs) to line =
      let first = line.ending in
      let none : indent (codes_of (c ∷ cs)) ≡ 0 =
      cond-false (is_white c.code) (1 + indent (codes_of cs)) 0 (not_white c.code (ap is_eol first.0 ∙ line.ends)) in
      ap (λ n. drop n (c ∷ cs)) (sym none)

  line_end : (code : ℕ) (from to : List InlineCode) → IsLeafLaid context (inline.LineEnd code) from to → EndsLine code from to
  line_end code from to (start, inl same, is) =
      let line = leaf_law context (inline.LineEnd code) start to is in
      record { start = start; spaces = sym same ∙ subst (λ x. x ≡ drop (indent (codes_of x)) x) (sym same) (none_before code start to line); line = line }
  line_end code from to (start, inr spaces, is) =
      record { start = start; spaces = spaces_after from start spaces; line = leaf_law context (inline.LineEnd code) start to is }

pub parts_law : PartsLaw
parts_law context (Escape text) from to is = escapes context text.now from to is
parts_law context (Character text) from to is =
    leaf_law context (inline.Character text.now) from to (one_leaf context (inline.Character text.now) from to is)
parts_law context (Number radix digits) from to is =
    let part = inline.Character (numbered_text (number_of radix digits.now)) in leaf_law context part from to (one_leaf context part from to is)
parts_law context (Code text) from to is =
    let part = inline.Code (code_text (content_codes text.now)) in leaf_law context part from to (one_leaf context part from to is)
parts_law context (Math text) from to is =
    let part = inline.Math (code_text (content_codes text.now)) in leaf_law context part from to (one_leaf context part from to is)
parts_law context (Unclosed text) from to is = is
parts_law context (Autolink email text) from to is =
    let part = inline.Autolink email text.now in leaf_law context part from to (one_leaf context part from to is)
parts_law context (Literal kind text) from to is = one_leaf context (inline.Literal (kind_view kind) text.now) from to is
parts_law context (Html text) from to is =
    let part = inline.Html (content_codes text.now) in leaf_law context part from to (one_leaf context part from to is)
parts_law context EscapedBreak from to is = leaf_law context inline.EscapedBreak from to (one_leaf context inline.EscapedBreak from to is)
parts_law context TrailingBreak from to is = leaf_law context inline.TrailingBreak from to (one_leaf context inline.TrailingBreak from to is)
parts_law context (LineEnd ending) from to is =
    let code = line_ending_code ending in line_end context code from to (one_leaf context (inline.LineEnd code) from to is)
parts_law context Spaces from to is = is
