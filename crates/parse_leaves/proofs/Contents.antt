-- The text of a content is that of its lines (CommonMark 4.8).
use Rattle.std.proofs.Common.{◌≡◌, ◌<◌, ℕ, Bool, true, false, if◌then◌else◌, List, [], ◌∷◌, None, sym, ap, ◌∙◌, subst, get_or}
use Rattle.parse_leaves.proofs.Prelude.{AreContentLines, BlockLine, codes_of, codes_of_view, Content, content_codes, content_lines_apart, content_text}
use Rattle.parse_leaves.proofs.Prelude.{content_view, inline_content, Kind, own_lines, read_content, Reading, Walk, whole_lines, WritesContent, ◌==◌}
use Rattle.markdown_options.specs.declared.beside.Kind.TheVariants.{Whitespace}
use Rattle.inline_content.specs.Endings.{without_last}
use Rattle.inline_content.specs.Lines.{marks_of}
use Rattle.inline_content.specs.Marks.{kind_at}
use Rattle.inline_content.proofs.Lined.{content_is, lines_agree}
use Rattle.inline_content.proofs.Views.{codes_from}
use Rattle.inline_content.proofs.WholeLines.{whole_content_is, whole_view}
use Rattle.parse_leaves.proofs.Decoded.{AreSingle, bytes_single, content_single, same_bytes}

-- a content that stands for lines has their text
pub text_of_lines : (p : ℕ → Bool) (after : Kind) (content : Content) (ls : List BlockLine) → AreContentLines ls
    → ((k : ℕ) → get_or content.text.now k 0 < 256) → content_view p content ≡ inline_content p after (own_lines ls)
    → content.text.now ≡ content_text ls
text_of_lines p after content ls are bytes view =
    let apart = content_lines_apart ls are in
    let marks = marks_of 0 ls in
    same_bytes content.text.now (content_text ls) (bytes_single content.text.now bytes) (content_single ls are)
    (sym (codes_of_view p content)
    ∙ ap codes_of (view ∙ sym (content_is p after marks ls apart (lines_agree p ls apart)))
    ∙ codes_from p after marks 0 None (kind_at marks 0) (content_codes (content_text ls)))

-- what is written of such a content is written of its lines
pub lines_written : {A : Type 0} (r : Reading) (after : Kind) (content : Content) (first : Bool) (ls : List BlockLine) (old new : Walk A) → AreContentLines ls
    → ((k : ℕ) → get_or content.text.now k 0 < 256) → content_view r.tables.is_punctuation content ≡ inline_content r.tables.is_punctuation after (own_lines ls)
    → WritesContent r content.text.now (read_content r first (content_view r.tables.is_punctuation content)) old new
    → WritesContent r (content_text ls) (read_content r first (inline_content r.tables.is_punctuation after (own_lines ls))) old new
lines_written r after content first ls old new are bytes view written =
    let p = r.tables.is_punctuation in
    subst (λ text. WritesContent r text (read_content r first (inline_content p after (own_lines ls))) old new)
    (text_of_lines p after content ls are bytes view)
    (subst (λ codes. WritesContent r content.text.now (read_content r first codes) old new) view written)

single_without : (b : ℕ) (bs : List ℕ) → AreSingle bs → AreSingle (without_last b bs)
single_without b [] single = single
single_without b (c ∷ []) single = one_or_none (c == b)
  where
    one_or_none : (same : Bool) → AreSingle (if same then [] else c ∷ [])
    one_or_none true = tt
    one_or_none false = single
single_without b (c ∷ d ∷ ds) single = (single.0, single_without b (d ∷ ds) single.1)

-- a content that stands for the lines of a text has the text of these
pub text_of_whole : (p : ℕ → Bool) (content : Content) (text : List ℕ) → ((k : ℕ) → get_or text k 0 < 256) → ((k : ℕ) → get_or content.text.now k 0 < 256)
    → content_view p content ≡ inline_content p Whitespace (own_lines (whole_lines text)) → content.text.now ≡ content_text (whole_lines text)
text_of_whole p content text small bytes view =
    let single = subst AreSingle (sym (whole_content_is text small))
    (single_without 13 (without_last 10 text) (single_without 10 text (bytes_single text small))) in
    same_bytes content.text.now (content_text (whole_lines text)) (bytes_single content.text.now bytes) single
    (sym (codes_of_view p content)
    ∙ ap codes_of (view ∙ sym (whole_view p Whitespace text small))
    ∙ codes_from p Whitespace [] 0 None (kind_at [] 0) (content_codes (content_text (whole_lines text))))

-- what is written of it is written of the lines
pub whole_written : {A : Type 0} (r : Reading) (content : Content) (first : Bool) (text : List ℕ) (old new : Walk A) → ((k : ℕ) → get_or text k 0 < 256)
    → ((k : ℕ) → get_or content.text.now k 0 < 256)
    → content_view r.tables.is_punctuation content ≡ inline_content r.tables.is_punctuation Whitespace (own_lines (whole_lines text))
    → WritesContent r content.text.now (read_content r first (content_view r.tables.is_punctuation content)) old new
    → WritesContent r (content_text (whole_lines text))
    (read_content r first (inline_content r.tables.is_punctuation Whitespace (own_lines (whole_lines text)))) old new
whole_written r content first text old new small bytes view written =
    let p = r.tables.is_punctuation in
    subst (λ bs. WritesContent r bs (read_content r first (inline_content p Whitespace (own_lines (whole_lines text)))) old new)
    (text_of_whole p content text small bytes view)
    (subst (λ codes. WritesContent r content.text.now (read_content r first codes) old new) view written)
