-- What is written up to the last line of fenced code or math, step by step (CommonMark 4.5).
use Rattle.std.proofs.Common.{◌≡◌, ◌⊎◌, ℕ, ◌+◌, ◌<◌, Bool, true, false, cond, List, Option, Some, eqb, inl, inr, refl, sym, ap, subst, ◌∙◌, get_or, length, reverse, arith}
use Rattle.parse_raw.proofs.Prelude.{after_run, AreNames, AreNext, AreTaken, around, bare, Between, block_info, BlockLine, bytes_of, chunk_name}
use Rattle.parse_raw.proofs.Prelude.{Constructs, Container, end_at, end_in, ends_line, Enters, Fence, fence_start}
use Rattle.parse_raw.proofs.Prelude.{FenceNames, first_word, InAll, indent, info_by, info_in, InSome, IsBefore, IsChunkName, IsCutLine, IsFenceLine}
use Rattle.parse_raw.proofs.Prelude.{IsInOrder, LineRest, list_any, math_info, math_start, Name, Names, outdent, Prefixed}
use Rattle.parse_raw.proofs.Prelude.{rest_line, Standing, standing, StandsAt, trim, Walk, whole, Within, WritesCutLines, WritesOpened, written_to}
use Rattle.parse_raw.specs.FenceParts.{WritesFence}
use Rattle.event_tokens.specs.Tokens.{is_among}
use Rattle.parse_raw.proofs.Prelude.{fence_marks}
use Rattle.parse_raw.proofs.Bytes.{dark_bytes, dark_codes, dark_drop}
use Rattle.parse_raw.proofs.FencedCode.{fence_facts}
use Rattle.parse_raw.proofs.OnLine.{WritesWhiteAhead}
use Rattle.parse_raw.proofs.OpeningFence.{before_entered}
use Rattle.parse_raw.proofs.RawBlocks.{taken_as}

-- ---- what is left of a line has no line ending

pub dark_rest : {A : Type 0} (text : List ℕ) (here : LineRest) (left : List LineRest) (w : Walk A) → StandsAt text (Within here left) (standing w)
    → list_any ends_line (bytes_of (bare here.rest)) ≡ false
dark_rest text here left w st =
    dark_bytes (bare here.rest) (dark_drop (indent here.rest) here.rest (
    ap (list_any ends_line) st.suffix ∙ dark_drop st.columns (whole st.line.content) (dark_codes 0 st.line.content st.line.parts.dark)
    ))

-- a line of fenced code is one that loses the columns before the fence
fence_line_cut : (on : Constructs) (fence : Fence) (k : ℕ) → fence.indent ≡ k → (here : Prefixed) (line : BlockLine) → IsFenceLine on fence here line
    → IsCutLine (outdent k) here line
fence_line_cut on fence k is (InAll own) line p =
    (own, refl, p.1 ∙ ap (λ (i : ℕ). rest_line (outdent i own.rest) own.beside) is)
fence_line_cut on fence k is (InSome own) line p = absurd p

chunk_is : (math : Bool) → IsChunkName (chunk_name math)
chunk_is true = inr (inl refl)
chunk_is false = inl refl

-- the info that a fence has, as its event spells it
info_is : (math : Bool) (on : Constructs) (names : Names) (fence : Fence) (after : List ℕ) (found : Option (List ℕ))
    → cond math (fence.info ≡ math_info) (fence.info ≡ first_word after) → found ≡ info_in math on names (trim after) → block_info math on names fence.info found
info_is true on names fence after found is spelt = is
info_is false on names fence after found is spelt = spelt ∙ ap (info_by on names) (sym is)

chunk_names : (math : Bool) (names : FenceNames) → AreNames math names → names.chunk ≡ chunk_name math
chunk_names true names are = are.chunk
chunk_names false names are = are.chunk

module _ {A : Type 0} (on : Constructs) (names : Names) (fence_names : FenceNames) (text : List ℕ) where
  pub opening_written : (fence : Fence) (here : LineRest) (left after : List LineRest) (ls : List BlockLine) (marker columns count : ℕ) (bytes : List ℕ)
      (old a b f l : Walk A) → count ≡ length ls → StandsAt text (Within here left) (standing old)
      → (fence_start old.on.now here.rest ≡ Some fence) ⊎ (math_start old.on.now here.rest ≡ Some fence)
      → AreTaken old.on.now (around (standing old)) (IsFenceLine old.on.now fence) ls (Between left) (Between after)
      → WritesWhiteAhead text here left old a → bytes ≡ bytes_of (bare here.rest) → marker ≡ get_or bytes 0 0 → columns ≡ indent here.rest
      → AreNames (eqb marker 36) fence_names
      → (IsInOrder text a.out → Enters text fence_names.block a.out b.out) → standing b ≡ standing a → written_to b ≡ written_to a
      → ((math : Bool) (byte : ℕ) → AreNames math fence_names → is_among (fence_marks math) byte ≡ true → byte < 128 → get_or bytes 0 0 ≡ byte → WritesFence on names math byte bytes b f)
      → WritesCutLines fence_names.chunk (outdent columns) count f l
      → WritesOpened on names text fence here.beside.ending ls after fence_names old l
  opening_written fence here left after ls marker columns count bytes old a b f l size st starts taken white bytes_is marker_is columns_is are enters same_b end_b
      opens lines =
      let facts = fence_facts old.on.now here.rest fence starts in
      let byte = facts.byte in
      let first : get_or bytes 0 0 ≡ byte = ap (λ (xs : List ℕ). get_or xs 0 0) bytes_is ∙ facts.first in
      let math = eqb byte 36 in
      let are_math : AreNames math fence_names = subst (λ (m : ℕ). AreNames (eqb m 36) fence_names) (marker_is ∙ first) are in
      let entered = enters white.on.before.order in
      let before_a : IsBefore text here.beside.ending left bytes a =
      record {
        stands = white.on.at;
        order = white.on.before.order;
        whole = white.on.before.whole;
        next = subst (λ (xs : List ℕ). AreNext text (end_in a.out) xs) (sym bytes_is) white.on.before.next;
        end = subst (λ (xs : List ℕ). (end_in a.out).index + length xs ≡ a.line_end) (sym bytes_is) white.on.end;
        dark = ap (list_any ends_line) bytes_is ∙ dark_rest text here left old st;
      } in
      let before_b = before_entered text here.beside.ending left bytes a b before_a entered.order same_b end_b in
      let opened = opens math byte are_math facts.mark facts.ascii first text here.beside.ending left before_b in
      let done = opened.before in
      let same_old = same_b ∙ white.same in
      let on_f : f.on.now ≡ old.on.now = opened.around.0 ∙ ap (λ (s : Standing). s.on) same_old in
      let open_f : (standing f).outermost ≡ (standing old).outermost = opened.around.1 ∙ ap (λ (s : Standing). s.outermost) same_old in
      let taken_cut = taken_as old.on.now (around (standing old)) (IsFenceLine old.on.now fence) (IsCutLine (outdent columns)) ls (Between left) (Between after)
      (fence_line_cut old.on.now fence columns (facts.indent ∙ sym columns_is)) taken in
      let taken_f = subst (λ (x : Constructs). AreTaken x (reverse (standing f).outermost) (IsCutLine (outdent columns)) ls (Between left) (Between after)) (sym on_f) (
      subst (λ (cs : List Container). AreTaken old.on.now (reverse cs) (IsCutLine (outdent columns)) ls (Between left) (Between after)) (sym open_f) taken_cut
      ) in
      let at_end : written_to f ≡ end_at f.line_end 0 =
      ap (end_at (end_in f.out).index) done.whole ∙ ap (λ (k : ℕ). end_at k 0) (omega (arith, done.end)) in
      let named = subst (λ (name : Name). WritesCutLines name (outdent columns) count f l) (chunk_names math fence_names are_math) lines in
      record {
        math = math;
        are = are_math;
        space = a;
        entered = b;
        quiet = white.quiet;
        enters = entered;
        node = opened.node;
        named_so = opened.named_so;
        info = info_is math on names fence (after_run byte (bytes_of (bare here.rest))) _ facts.info
            (opened.info ∙ ap (λ (xs : List ℕ). info_in math on names (trim (after_run byte xs))) bytes_is);
        definitions = opened.definitions;
        fenced = f;
        writes_fence = opened.writes;
        lines = named text here.beside.ending ls left after size (chunk_is math) done.stands at_end opened.writes.order taken_f;
        around = (on_f, open_f);
        starts = white.starts;
        begins = white.begins;
        mark = ap (is_among (fence_marks math)) facts.own ∙ facts.mark;
        made = facts.made;
        some = facts.some;
        filled = opened.filled;
        sound = opened.sound;
      }
