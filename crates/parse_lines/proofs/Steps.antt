-- From one place of a text to the next.
use Rattle.std.proofs.Common.{◌≡◌, ℕ, ◌+◌, ◌-◌, ◌<◌, ◌≤◌, Bool, true, false, List, [], ◌∷◌, ◌++◌, Option, Some, refl, sym, ap, ◌∙◌, subst, drop, length}
use Rattle.std.proofs.Common.{arith, length-append, append_assoc, get_or, None}
use Rattle.parse_lines.proofs.Prelude.{AreQuotesWithin, around, AtEnding, BeginsLine, beside_in, beside_line, Between, Constructs, Container, container_start}
use Rattle.parse_lines.proofs.Prelude.{ContainerStart, drop-nil, ending_text, EndsLine, index_spot, is_quote, IsBetween, IsInLine, IsLineOf, Kind, line_left}
use Rattle.parse_lines.proofs.Prelude.{line_rest, LineEnding, LineRest, lines, list_any, Place, prefixed, Rest, reverse, Standing, StandsAt, starts, StartsOf}
use Rattle.parse_lines.proofs.Prelude.{text_line, TEXT_MAX, unread, whole, with_rest, Within}
use Rattle.std.specs.Prelude.{Result, Ok, Err, OnOk}
use Rattle.std.proofs.lemmas.List.{reverse-append}
use Rattle.markdown_options.specs.declared.line_ending.LineEnding.TheVariants.{CarriageReturn}
use Rattle.markdown_options.specs.declared.beside.Kind.TheVariants.{Whitespace}
use Rattle.parse_lines.specs.Standing.{IsLineStart, IsOver, IsWithin}
use Rattle.parse_lines.specs.Steps.{BeginsAt, IsBegun, Leaves, PassesLine, ReadsPrefixes}
use Rattle.parse_lines.proofs.Suffixes.{ends_in, prefixed_follows, starts_end}
use Rattle.parse_lines.proofs.Containers.{quotes_fewer}
use Rattle.parse_lines.proofs.Spots.{bytes_after, bytes_before, column_after_ending}
use Rattle.parse_lines.proofs.Lines.{apart_after, apart_line, dark_line, last_line, line_first, some_left}

-- a line is begun, of which this is left
abbrev pub at_line : Standing → List ℕ → ℕ → Option LineEnding → Rest → Standing
at_line s after end ending rest = record s { left = after; is_in_line = true; rest = rest; line_end = end; ending = ending }

-- the first line of what is left
pub line_of : (old : Standing) (text : List ℕ) (left : List LineRest) (content after : List ℕ) (ending : Option LineEnding)
    → (st : IsBetween text left old) → 0 < length old.left → lines old.left ≡ text_line content ending ∷ lines after
    → IsLineOf text st.before content (ending_text ending ++ after)
line_of old text left content after ending st some is =
    let parts : text ≡ st.before ++ (content ++ (ending_text ending ++ after)) =
    st.parts ∙ ap (λ (xs : List ℕ). st.before ++ xs) (line_first old.left content after ending is) in
    record {
      parts = parts;
      fits = st.over.fits;
      first = st.first some;
      dark = dark_line old.left content after ending is;
      bytes = bytes_before content (ending_text ending ++ after) (
          bytes_after st.before (content ++ (ending_text ending ++ after)) (subst (λ (xs : List ℕ). (k : ℕ) → get_or xs k 0 < 256) parts st.over.bytes)
          );
    }

-- its prefixes are read, up to this rest
line_begins : (old : Standing) (content after : List ℕ) (end : ℕ) (ending : Option LineEnding) (start rest : Rest)
    → (0 < length old.left → lines old.left ≡ text_line content ending ∷ lines after)
    → (length content ≤ TEXT_MAX → start ≡ whole content)
    → end ≡ (old.size - length after) - length (ending_text ending)
    → ((line : LineRest) → AreQuotesWithin old.quotes_end old.outermost → line.rest ≡ start → rest ≡ (line_left (prefixed old.on (around old) line)).rest)
    → BeginsLine old (at_line old after end ending rest)
line_begins old content after end ending start rest first fresh ends reads text next others st =
    let some = some_left st.kind old.left next others st.unread in
    let e = first some in
    let line = line_of old text (next ∷ others) content after ending st some e in
    let is : next ∷ others ≡ line_rest (whole content) (beside_line st.kind (text_line content ending)) ∷ unread Whitespace (lines after) =
    st.unread ∙ ap (unread st.kind) e in
    let parts = line.parts in
    let sizes : length text ≡ length st.before + (length content + (length (ending_text ending) + length after)) =
    ap length parts ∙ length-append st.before _ ∙ ap (λ (n : ℕ). length st.before + n) (
    length-append content _ ∙ ap (λ (n : ℕ). length content + n) (length-append (ending_text ending) after)
    ) in
    let fits = st.over.fits in
    let size = st.over.size in
    let is_whole : start ≡ whole content = fresh (omega arith) in
    let is_next : next ≡ line_rest (whole content) (beside_line st.kind (text_line content ending)) = cc in
    let next_rest : next.rest ≡ whole content = ap (λ (l : LineRest). l.rest) is_next in
    let next_ending : next.beside.ending ≡ ending = ap (λ (l : LineRest). l.beside.ending) is_next in
    let here = prefixed_follows old.on (around old) next in
    let suffix = here.end in
    record {
      line = record {
        over = record { fits = st.over.fits; size = st.over.size; bytes = st.over.bytes; quotes = st.over.quotes };
        begun = refl;
        before = st.before;
        content = content;
        parts = line;
        last = last_line old.left content after ending e;
        apart = apart_line old.left content after ending e;
        end = omega arith;
      };
      columns = suffix.0;
      suffix = suffix.1 ∙ ap (drop suffix.0) next_rest;
      rest = reads next st.over.quotes (next_rest ∙ sym is_whole);
      ending = sym (here.ending ∙ next_ending);
      unread = cc;
    }

-- the same, where the line's prefixes are read to another standing
pub begins_line : (old new : Standing) (content after : List ℕ) (end : ℕ) (ending : Option LineEnding) (start : Rest)
    → (0 < length old.left → lines old.left ≡ text_line content ending ∷ lines after)
    → (length content ≤ TEXT_MAX → start ≡ whole content)
    → end ≡ (old.size - length after) - length (ending_text ending)
    → ReadsPrefixes (at_line old after end ending start) new → new ≡ with_rest (at_line old after end ending start) new.rest → BeginsLine old new
begins_line old new content after end ending start first fresh ends reads stays =
    subst (BeginsLine old) (sym stays) (line_begins old content after end ending start new.rest first fresh ends reads)

-- two facts of a call that succeeds
pub both_ok : {T E P Q R : Type 0} (r : Result T E) → (P → Q → R) → OnOk r P → OnOk r Q → OnOk r R
both_ok (Ok x) f p q = f p q
both_ok (Err e) f p q = tt

-- a line begins after the ending of another
after_line : (text before content left : List ℕ) (ending : Option LineEnding) → (ending ≡ None → left ≡ [])
    → (ending ≡ Some CarriageReturn → get_or left 0 0 ≡ 10 → ⊥) → text ≡ before ++ (content ++ (ending_text ending ++ left))
    → IsLineStart text (length before) → 0 < length left
    → IsLineStart text (length (before ++ (content ++ ending_text ending)))
after_line text before content left None last apart parts first some = let none = ap length (last refl) in absurd (omega arith)
after_line text before content left (Some ending) last apart parts first some =
    let mark = first.mark in
    let size = length-append before content in
    let split : text ≡ (before ++ content) ++ (ending_text (Some ending) ++ left) =
    parts ∙ sym (append_assoc before content (ending_text (Some ending) ++ left)) in
    let whole : length (before ++ content) + length (ending_text (Some ending)) ≡ length (before ++ (content ++ ending_text (Some ending))) =
    sym (length-append (before ++ content) (ending_text (Some ending))) ∙ ap length (append_assoc before content (ending_text (Some ending))) in
    let column = column_after_ending text (before ++ content) left ending split (omega arith) in
    record {
      column = ap (λ (n : ℕ). (index_spot text n).column) (sym whole) ∙ column;
      mark = omega arith;
      apart =
          subst (λ (n : ℕ). 0 < n → get_or text (n - 1) 0 ≡ 13 → get_or text n 0 ≡ 10 → ⊥) whole
          (apart_after text (before ++ content) left ending split (λ is. apart (ap Some is)));
    }

-- the line's ending is passed
pub line_ends : (old : Standing) → EndsLine old (record old { is_in_line = false })
line_ends old text ending left st =
    record {
      over = record { fits = st.line.over.fits; size = st.line.over.size; bytes = st.line.over.bytes; quotes = st.line.over.quotes };
      begun = refl;
      before = st.line.before ++ (st.line.content ++ ending_text old.ending);
      parts = st.line.parts.parts ∙ sym (append_assoc st.line.before (st.line.content ++ ending_text old.ending) old.left
          ∙ ap (λ (xs : List ℕ). st.line.before ++ xs) (append_assoc st.line.content (ending_text old.ending) old.left));
      first = after_line text st.line.before st.line.content old.left old.ending st.line.last st.line.apart st.line.parts.parts st.line.parts.first;
      kind = Whitespace;
      unread = st.unread;
    }

-- the walk begins
pub walk_begins : (s : Standing) (size : ℕ) (rest : List ℕ) → s.size ≡ size → s.left ≡ rest → s.is_in_line ≡ false → s.outermost ≡ [] → BeginsAt size rest s
walk_begins s size rest is_size is_left out none text before kind fits all bytes parts first =
    record {
      over = record {
        fits = fits;
        size = is_size ∙ all;
        bytes = bytes;
        quotes = ap (λ (cs : List Container). list_any is_quote (drop s.quotes_end cs)) none ∙ ap (list_any is_quote) (drop-nil s.quotes_end);
      };
      begun = out;
      before = before;
      parts = parts ∙ ap (λ (xs : List ℕ). before ++ xs) (sym is_left);
      first = λ some. first;
      kind = kind;
      unread = ap (λ (xs : List ℕ). unread kind (lines xs)) (sym is_left);
    }

-- a line is begun already
pub stays_begun : (s : Standing) → s.is_in_line ≡ true → IsBegun s s
stays_begun s is_begun text (Between []) in_line st = absurd (cc)
stays_begun s is_begun text (Between (next ∷ others)) in_line st = let is_outside = st.begun in absurd (cc)
stays_begun s is_begun text (Within here left) in_line st = st
stays_begun s is_begun text (AtEnding ending left) in_line st = st

-- it is begun now
pub begins_begun : (old new : Standing) → old.is_in_line ≡ false → BeginsLine old new → IsBegun old new
begins_begun old new is_outside begins text (Between []) in_line st = absurd (cc)
begins_begun old new is_outside begins text (Between (next ∷ others)) in_line st = begins text next others st
begins_begun old new is_outside begins text (Within here left) in_line st = let is_begun = st.line.begun in absurd (cc)
begins_begun old new is_outside begins text (AtEnding ending left) in_line st = let is_begun = st.line.begun in absurd (cc)

-- the next line is begun after the ending of this one
pub line_passes : (old between new : Standing) → between.on ≡ old.on → between.outermost ≡ old.outermost → EndsLine old between → BeginsLine between new
    → PassesLine old new
line_passes old between new on outermost ends begins text ending next others st =
    subst (λ (cs : List Container). StandsAt text (Within (line_left (prefixed old.on (reverse cs) next)) others) new) outermost (
    subst (λ (x : Constructs). StandsAt text (Within (line_left (prefixed x (around between) next)) others) new) on (
    begins text next others (ends text ending (next ∷ others) st)
    )
    )

-- ---- containers

-- the same line, where other containers are open
in_line_over : (old : Standing) (xs : List Container) (n : ℕ) (text : List ℕ) → (IsOver text old → IsOver text (record old { outermost = xs; quotes_end = n }))
    → IsInLine text old → IsInLine text (record old { outermost = xs; quotes_end = n })
in_line_over old xs n text over line =
    record {
      over = over line.over;
      begun = line.begun;
      before = line.before;
      content = line.content;
      parts = line.parts;
      last = line.last;
      apart = line.apart;
      end = line.end;
    }

-- the same place
stands_over : (old : Standing) (xs : List Container) (n : ℕ) (text : List ℕ) (p : Place)
    → (IsOver text old → IsOver text (record old { outermost = xs; quotes_end = n })) → StandsAt text p old
    → StandsAt text p (record old { outermost = xs; quotes_end = n })
unfolding in_line_over
stands_over old xs n text (Between left) over st =
    record { over = over st.over; begun = st.begun; before = st.before; parts = st.parts; first = st.first; kind = st.kind; unread = st.unread }
stands_over old xs n text (Within here left) over st =
    record {
      line = in_line_over old xs n text over st.line;
      columns = st.columns;
      suffix = st.suffix;
      rest = st.rest;
      ending = st.ending;
      unread = st.unread;
    }
stands_over old xs n text (AtEnding ending left) over st =
    record { line = in_line_over old xs n text over st.line; ending = st.ending; unread = st.unread }

-- a container isn't open any more
pub leaves : (old : Standing) (c : Container) (xs : List Container) (n : ℕ) → old.outermost ≡ xs ++ c ∷ []
    → (AreQuotesWithin old.quotes_end xs → AreQuotesWithin n xs) → Leaves c old (record old { outermost = xs; quotes_end = n })
leaves old c xs n is quotes =
    let over : (text : List ℕ) → IsOver text old → IsOver text (record old { outermost = xs; quotes_end = n }) = λ text o.
    record {
      fits = o.fits;
      size = o.size;
      bytes = o.bytes;
      quotes = quotes (quotes_fewer old.quotes_end xs c (subst (AreQuotesWithin old.quotes_end) is o.quotes));
    } in
    (ap reverse is ∙ reverse-append xs (c ∷ []), refl, λ text p st. stands_over old xs n text p (over text) st)

-- a container starts
pub container_starts : (is_kind : Container → Bool) (old : Standing) (k : Container) (rest : Rest) (before : Kind) (n : ℕ)
    → starts old.on false old.rest ≡ Some (container_start k rest before)
    → (AreQuotesWithin old.quotes_end old.outermost → AreQuotesWithin n (old.outermost ++ k ∷ []))
    → StartsOf is_kind old true (record old { outermost = old.outermost ++ k ∷ []; rest = rest; quotes_end = n })
container_starts is_kind old k rest before n found quotes text c here left to kind st s =
    let same : here ≡ s.0 = cc in
    let others : left ≡ s.1 = cc in
    let here_found : starts old.on false s.0.rest ≡ Some (container_start k rest before) =
    ap (λ (l : LineRest). starts old.on false l.rest) (sym same) ∙ ap (starts old.on false) (sym st.rest) ∙ found in
    let is : s.2 ≡ container_start k rest before = cc in
    let is_k : c ≡ k = s.5 ∙ ap (λ (f : ContainerStart). f.container) is in
    let suffix = starts_end old.on s.0.rest (container_start k rest before) here_found in
    let ends = ends_in rest s.0.rest (whole st.line.content) suffix (st.columns, sym (ap (λ (l : LineRest). l.rest) same) ∙ st.suffix) in
    let new = record old { outermost = old.outermost ++ k ∷ []; rest = rest; quotes_end = n } in
    let within : IsWithin text (line_rest rest (beside_in before s.0.beside)) s.1 new =
    record {
      line = record {
        over = record { fits = st.line.over.fits; size = st.line.over.size; bytes = st.line.over.bytes; quotes = quotes st.line.over.quotes };
        begun = st.line.begun;
        before = st.line.before;
        content = st.line.content;
        parts = st.line.parts;
        last = st.line.last;
        apart = st.line.apart;
        end = st.line.end;
      };
      columns = ends.0;
      suffix = ends.1;
      rest = refl;
      ending = st.ending ∙ ap (λ (l : LineRest). l.beside.ending) same;
      unread = sym others ∙ st.unread;
    } in
    let at : to ≡ Within (line_rest rest (beside_in before s.0.beside)) s.1 =
    s.6 ∙ ap (λ (f : ContainerStart). Within (line_rest f.rest (beside_in f.before s.0.beside)) s.1) is in (
      refl,
      subst (λ (p : Place). StandsAt text p new) (sym at) within,
      reverse-append old.outermost (k ∷ []) ∙ ap (λ (x : Container). x ∷ around old) (sym is_k),
      refl,
    )

-- within a line, the walk is also at its ending
pub at_ending : (text : List ℕ) (here : LineRest) (left : List LineRest) (s : Standing) → StandsAt text (Within here left) s
    → StandsAt text (AtEnding here.beside.ending left) s
at_ending text here left s st = record { line = st.line; ending = st.ending; unread = st.unread }
