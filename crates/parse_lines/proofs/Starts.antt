-- What is written where a container starts.
use Rattle.std.proofs.Common.{◌≡◌, inl, inr, ℕ, ◌+◌, Bool, true, false, List, ◌++◌, Some, refl, sym, ap, ap₂, ◌∙◌, subst, drop, length}
use Rattle.parse_lines.proofs.Prelude.{around, bare, Constructs, Container, container_start, ContainerStart, End, end_in, ending_text, Enters, Follows}
use Rattle.parse_lines.proofs.Prelude.{is_white, IsInOrder, IsLineOf, Kind, LineRest, list_all, Name, Nil, Output, Place, Rest, rest_of, rest_start, Standing}
use Rattle.parse_lines.proofs.Prelude.{standing, StandsAt, starts, text_between, Walk, whole, Within, Writes, WritesQuiet, written_to}
use Rattle.engine_events.specs.declared.event.Name.TheVariants.{SpaceOrTab}
use Rattle.parse_laid.specs.Places.{Starts}
use Rattle.parse_lines.specs.Ends.{IsWrittenToStart, WritesMarker, WritesStart, WritesStartOf, WritesUpTo, bare_end}
use Rattle.parse_lines.specs.Prefixes.{IsPrefixOf}
use Rattle.parse_lines.proofs.Quiet.{no_void, quiet_nothing, white_self}
use Rattle.parse_lines.proofs.Written.{bare_follows, bare_follows_self, bare_start, bare_white}

-- the container that starts is the one that is found
same_start : (on : Constructs) (containers : List Container) (c k : Container) (here : LineRest) (left : List LineRest) (to : Place)
    (start rest : Rest) (before : Kind) → Starts on containers c (Within here left) to → start ≡ here.rest
    → starts on false start ≡ Some (container_start k rest before) → c ≡ k
same_start on containers c k here left to start rest before s at found =
    let same : here ≡ s.0 = cc in
    let here_found : starts on false s.0.rest ≡ Some (container_start k rest before) =
    ap (λ (l : LineRest). starts on false l.rest) (sym same) ∙ ap (starts on false) (sym at) ∙ found in
    let is : s.2 ≡ container_start k rest before = cc in
    s.5 ∙ ap (λ (f : ContainerStart). f.container) is

module _ {A : Type 0} (text : List ℕ) where
  -- the white space ahead is written, unless it was before
  space_ahead : (old white : Walk A) (before content after : List ℕ) (n : ℕ) → IsLineOf text before content after
      → old.line_end ≡ length before + length content → rest_of old.rest ≡ drop n (whole content) → IsWrittenToStart old → IsInOrder text old.out
      → WritesUpTo SpaceOrTab (bare_end old) old white
      → (space : WritesQuiet text old.out white.out) × (written_to old ≡ bare_end old → space.nodes ≡ Nil)
  space_ahead old white before content after n line end at (inl to_rest) order writes =
      let start = rest_of old.rest in
      let stop = bare_end old in
      let stop_is = bare_start text before content after n old.line_end start stop refl in
      let follows = bare_follows text before content after n old.line_end start stop line end at stop_is in
      let on : Follows text (written_to old) stop = subst (λ (x : End). Follows text x stop) (sym to_rest) follows in
      let white_is = subst (λ (x : End). list_all is_white (text_between text x stop) ≡ true) (sym to_rest)
      (bare_white text before content after n old.line_end start stop line end at stop_is) in
      quiet_nothing text old.out white.out (written_to old) stop on white_is (writes text order (record { follows = on; bytes = λ apart. white_is }))
  space_ahead old white before content after n line end at (inr to_bare) order writes =
      let start = rest_of old.rest in
      let stop = bare_end old in
      let stop_is = bare_start text before content after n old.line_end start stop refl in
      let follows = bare_follows_self text before content after n old.line_end start stop line end at stop_is in
      let on : Follows text (written_to old) stop = subst (λ (x : End). Follows text x stop) (sym to_bare) follows in
      let none = no_void text SpaceOrTab (written_to old) stop to_bare in (
        record { nodes = Nil; writes = subst (Writes text old.out white.out) none (writes text order (record { follows = on; bytes = λ apart. white_self text (written_to old) stop to_bare })); quiet = tt; white = refl },
        λ same. refl,
      )

  -- the white space ahead spells nothing
  pub white_quiet : (here : LineRest) (left : List LineRest) (old new : Walk A) → StandsAt text (Within here left) (standing old) → IsWrittenToStart old
      → IsInOrder text old.out → WritesUpTo SpaceOrTab (bare_end old) old new → WritesQuiet text old.out new.out
  white_quiet here left old new st to_start order writes =
      (space_ahead old new st.line.before st.line.content _ st.columns st.line.parts st.line.end (st.rest ∙ st.suffix) to_start order writes).0

-- A container that starts is written so: white space, its enter, and its prefix. The walk is after them then.
module _ {A : Type 0} (name : Name) (own : Container) (kind : Kind) (rest : Rest) (old white entered marked new : Walk A) where
  pub container_written : (is_kind : Container → Bool) → starts old.on.now false (rest_of old.rest) ≡ Some (container_start own rest kind)
      → WritesUpTo SpaceOrTab (bare_end old) old white → written_to white ≡ bare_end old → standing white ≡ standing old
      → ((text : List ℕ) → IsInOrder text white.out → Enters text name white.out entered.out) → written_to entered ≡ written_to white
      → standing entered ≡ standing white → WritesMarker own rest entered marked → marked.line_end ≡ entered.line_end
      → new.out ≡ marked.out → new.line_end ≡ marked.line_end → rest_of new.rest ≡ rest → WritesStartOf is_kind name old new
  container_written is_kind found writes space_end space_same enters enter_end enter_same marks mark_line out line_is rest_is text c here left to of_kind st way
      to_start order =
      let line = st.line in
      let before = line.before in
      let content = line.content in
      let after = ending_text (standing old).ending ++ (standing old).left in
      let start = rest_of old.rest in
      let at : start ≡ drop st.columns (whole content) = st.rest ∙ st.suffix in
      let stop = bare_end old in
      let stop_is = bare_start text before content after st.columns old.line_end start stop refl in
      let space = space_ahead text old white before content after st.columns line.parts line.end at to_start order writes in
      let entered_is = enters text space.0.writes.order in
      let same = enter_same ∙ space_same in
      let line_same : entered.line_end ≡ old.line_end = ap (λ (s : Standing). s.line_end) same in
      let rest_same : rest_of entered.rest ≡ start = ap (λ (s : Standing). s.rest) same in
      let marked_is =
      marks text before content after st.columns kind line.parts (line_same ∙ line.end) (rest_same ∙ at)
      (enter_end ∙ space_end ∙ stop_is ∙ ap₂ (λ (e : ℕ) (r : Rest). rest_start e (bare r)) (sym line_same) (sym rest_same)) entered_is.order
      (ap (λ (s : Standing). starts s.on false s.rest) same ∙ found) in
      let is_own = same_start old.on.now (around (standing old)) c own here left to start rest kind way st.rest found in
      let written : WritesStart text name (IsPrefixOf text own) stop old.out marked.out =
      record {
        before = white.out;
        entered = entered.out;
        space = space.0;
        nothing = space.1;
        begins = space_end;
        enters = entered_is;
        first = marked_is.0;
        is_prefix = marked_is.1;
        writes = marked_is.2;
      } in (
        subst (λ (x : Container). WritesStart text name (IsPrefixOf text x) stop old.out new.out) (sym is_own) (
            subst (WritesStart text name (IsPrefixOf text own) stop old.out) (sym out) written),
        ap (λ (o : Output A). end_in o) out ∙ marked_is.3 ∙ ap₂ rest_start (sym (line_is ∙ mark_line)) (sym rest_is),
      )
