-- An attempt at spaces and tabs goes over at most so many columns.
use Rattle.std.proofs.Common.{◌≡◌, ◌∙◌, ℕ, zero, suc, ◌+◌, ◌-◌, ◌<◌, min, Bool, true, false, not, ◌==◌, ◌&&◌, nat_lt, if◌then◌else◌, List, [], ◌∷◌, ◌++◌}
use Rattle.std.proofs.Common.{◌≤◌, drop, length, append_assoc}
use Rattle.std.proofs.Common.{Some, None, inl, inr, refl, replicate, sym, ap, subst, arith}
use Rattle.state_verdicts.proofs.BlockPrelude.{and_right, as_byte, AtHand, byte, cases_Bool, cases_lt, Config, event, Event, feed, Flows, indent}
use Rattle.state_verdicts.proofs.BlockPrelude.{InLine, is_feed, is_space_or_tab, is_white, KeptState, le-ltb, less, lt-ltb, Name, nothing, plain, Point, run}
use Rattle.state_verdicts.proofs.BlockPrelude.{Sees, tab, Text, text_byte, with_exit}
use Rattle.definition_text.specs.Columns.{bytes_of}
use Rattle.engine_events.specs.declared.event.Kind.TheVariants.{Enter, Exit}
use Rattle.engine_events.specs.declared.event.Name.TheVariants as names
use Rattle.engine_programs.specs.Bodies.{Body}
use Rattle.engine_states.specs.declared.state.State.TheVariants as states
use Rattle.markdown_engine.specs.Reading.{at_point}
use Rattle.state_flow.specs.Flows.{flows_bodies}
use Rattle.state_labels.specs.Chunk.{part_link}
use Rattle.state_verdicts.specs.BlockVerdicts.{at_hand}
use Rattle.state_verdicts.specs.Codes.{Fills, column, full}
use Rattle.state_verdicts.specs.Columns.{ColumnsLaw, SeesColumns, along, ended}
use Rattle.state_verdicts.specs.Machines.{GoesOnBy, ReadsBy}
use Rattle.state_verdicts.specs.SpaceOrTab.{SpaceOrTabVerdict, WhiteVerdict, taken}
use Rattle.state_verdicts.proofs.LineCodes.{prefix_more, prefix_none, weight, weight_some}
use Rattle.state_verdicts.proofs.MachineTurns.{and_on, byte_at, does, does_next, end_at, ends_well, fails, fed, still_at}
use Rattle.state_verdicts.proofs.Seen.{seen_white}
use Rattle.state_verdicts.proofs.Standing.{Here, KeepsFlags, exits}
use Rattle.state_verdicts.proofs.WhiteReads.{ReadsWhite, after, after_does, begun, flows_white, inside, inside_does, inside_full, inside_none, inside_other}
use Rattle.state_verdicts.proofs.WhiteReads.{longer, spaced, start, start_does, start_fails, start_none, white_feed}

-- ---- columns

-- the further columns of a tab, and then columns
filled : {text : Text} {n : ℕ} {q r : Point} {cs : List ℕ} → Fills text n q r → SeesColumns text r cs → SeesColumns text q (replicate n 256 ++ cs)
filled full s = s
filled {text = text} {cs = cs} (column {n = n} {p = p} e f) s =
    subst (λ (l : List ℕ). SeesColumns text p (l ++ cs)) (let k : 256 ∷ replicate n 256 ≡ replicate (n + 1) 256 =
    ap (λ (i : ℕ). replicate i 256) (let i : suc n ≡ n + 1 = omega arith in i) in k) (along e (filled f s))

no_bytes : (n : ℕ) (cs : List ℕ) → bytes_of (replicate n 256 ++ cs) ≡ bytes_of cs
no_bytes zero cs = refl
no_bytes (suc n) cs = no_bytes n cs

same_bytes : (c : ℕ) (cs ds : List ℕ) → bytes_of cs ≡ bytes_of ds → bytes_of (c ∷ cs) ≡ bytes_of (c ∷ ds)
same_bytes c cs ds h = ap (λ (l : List ℕ). if not (c == 256) then c ∷ l else l) h

columns_length : (n : ℕ) (cs : List ℕ) → length (replicate n 256 ++ cs) ≡ n + length cs
columns_length zero cs = omega arith
columns_length (suc n) cs = let e = columns_length n cs in omega (arith, e)

-- there are no more of them than the codes may give bytes
pub few_columns : (text : Text) (p : Point) (codes : List ℕ) → Sees text p codes
    → (columns : List ℕ) × SeesColumns text p columns × (bytes_of columns ≡ bytes_of codes) × (length columns ≤ weight codes)
few_columns text p [] (nothing e) = ([], ended e, refl, omega arith)
few_columns text p (c ∷ cs) (byte {q = q} apart e s) =
    let rest = few_columns text q cs s in
    let few = rest.3 in
    let some = weight_some c cs in
    (c ∷ rest.0, along e rest.1, same_bytes c rest.0 cs rest.2, omega (arith, few, some))
few_columns text p (c ∷ cs) (tab {q = q} {r = r} {n = n} most e f s) =
    let rest = few_columns text r cs s in
    let few = rest.3 in
    let size = columns_length n rest.0 in (
      9 ∷ (replicate n 256 ++ rest.0),
      along e (filled f rest.1),
      same_bytes 9 (replicate n 256 ++ rest.0) cs (no_bytes n rest.0 ∙ rest.2),
      omega (arith, few, size, most),
    )

pub columns_law : ColumnsLaw
columns_law text p codes s = let columns = few_columns text p codes s in (columns.0, columns.1, columns.2)

-- ---- reading

module _ {W : Type 0} (bodies : Name → Body W) (spaces : ReadsWhite bodies) (text : Text) (c0 : Config W) (k : KeptState) where
  -- at a place within spaces and tabs, with these events so far and so many columns that may follow
  record Within (es : List Event) (w : ℕ) (c : Config W) (p : Point) : Type 0 where
    pub at : AtHand text c p
    pub here : Here text c0 es (spaced w k) c
    pub apart : is_feed c.previous ≡ false

  -- so many columns are taken
  abbrev takes : ℕ → List ℕ → ℕ
  takes w codes = min w (indent codes)

  -- where the state within them ends
  record Gone (es : List Event) (c : Config W) (w : ℕ) (codes : List ℕ) : Type 0 where
    pub config : Config W
    pub end : Point
    pub goes : GoesOnBy bodies text c (states.Retry inside) config states.Ok
    pub there : Within (es ++ event Exit names.SpaceOrTab (text.start end) None ∷ []) (w - takes w codes) config end
    pub flags : KeepsFlags c config
    pub sees : SeesColumns text end (drop (takes w codes) codes)

  room : (w : ℕ) (is : Bool) (c : Config W) → c.tokenize_state ≡ spaced w k → nat_lt 0 w ≡ is → nat_lt 0 c.tokenize_state.size_c ≡ is
  room w is c e h = ap (λ (s : KeptState). nat_lt 0 s.size_c) e ∙ h

  stops : (es : List Event) (w : ℕ) (c : Config W) (p : Point) (codes : List ℕ) → Within es w c p → SeesColumns text p codes → takes w codes ≡ 0
      → run (bodies inside) c ≡ plain (with_exit names.SpaceOrTab c) (states.Retry after) → Gone es c w codes
  stops es w c p codes h s none e = let f = exits text c0 names.SpaceOrTab h.here h.apart h.at.point in record {
    config = with_exit names.SpaceOrTab c;
    end = p;
    goes = and_on bodies text (does bodies text inside c (with_exit names.SpaceOrTab c) (states.Retry after) e)
        (does bodies text after (with_exit names.SpaceOrTab c) (with_exit names.SpaceOrTab c) states.Ok
        (after_does bodies spaces (with_exit names.SpaceOrTab c)));
    there = record {
      at = still_at refl refl refl h.at;
      here = record {
        events = f.events;
        kept = f.kept ∙ ap (λ (i : ℕ). spaced i k) (let j : w ≡ w - takes w codes = omega (arith, none) in j);
        map = f.map;
        resolvers = f.resolvers;
      };
      apart = h.apart;
    };
    flags = record { lazy = refl; pierce = refl };
    sees = subst (λ (i : ℕ). SeesColumns text p (drop i codes)) (sym none) s;
  }

  goes_over : (codes : List ℕ) {p : Point} → SeesColumns text p codes → (es : List Event) (w : ℕ) (c : Config W) → Within es w c p → Gone es c w codes
  goes_over [] {p} (ended e) es w c h = stops es w c p [] h (ended e) (omega arith) (inside_none bodies spaces c (end_at h.at e))
  goes_over (code ∷ cs) {p} (along {q = q} e s) es w c h = elim (cases_lt 0 w) [
    | inl some ↦ elim (cases_Bool (is_white code)) [
      | inl is ↦
          let seen : is_space_or_tab (text_byte code) ≡ true = seen_white code ∙ is in
          let size = prefix_more is_white code cs is in
          let d : Config W = longer c in
          let next : Within es (w - 1) (feed text d) q = record {
            at = fed text d q (h.at.next (as_byte (text_byte code) q) e);
            here = record {
              events = h.here.events;
              kept = ap (λ (t : KeptState). spaced (less t.size_c) t) h.here.kept;
              map = h.here.map;
              resolvers = h.here.resolvers;
            };
            apart = ap is_feed (byte_at h.at e) ∙ white_feed (text_byte code) seen;
          } in
          let o = goes_over cs s es (w - 1) (feed text d) next in
          let count : takes w (code ∷ cs) ≡ suc (takes (w - 1) cs) = omega (arith, some, size) in record {
            config = o.config;
            end = o.end;
            goes = and_on bodies text (does_next bodies text inside inside c d (inside_does bodies spaces (text_byte code) c (byte_at h.at e) seen
                (room w true c h.here.kept (lt-ltb 0 w some)))) o.goes;
            there = subst (λ (i : ℕ). Within (es ++ event Exit names.SpaceOrTab (text.start o.end) None ∷ []) i o.config o.end)
                (let j : w - 1 - takes (w - 1) cs ≡ w - takes w (code ∷ cs) = omega (arith, some, count) in j) o.there;
            flags = record { lazy = o.flags.lazy; pierce = o.flags.pierce };
            sees = subst (λ (i : ℕ). SeesColumns text o.end (drop i (code ∷ cs))) (sym count) o.sees;
          }
      | inr is ↦ stops es w c p (code ∷ cs) h (along e s) (let size = prefix_none is_white code cs is in omega (arith, size))
          (inside_other bodies spaces (text_byte code) c (byte_at h.at e) (seen_white code ∙ is))
    ]
    | inr none ↦ stops es w c p (code ∷ cs) h (along e s) (omega (arith, none))
        (inside_full bodies spaces (text_byte code) c (byte_at h.at e) (room w false c h.here.kept (le-ltb 0 w none)))
  ]

  -- where an attempt at them ends
  pub record Taken (es : List Event) (c : Config W) (p : Point) (w : ℕ) (codes : List ℕ) : Type 0 where
    pub config : Config W
    pub end : Point
    pub reads : ReadsBy bodies text c (states.Retry start) config true
    pub at : AtHand text config end
    pub here : Here text c0 ((es ++ event Enter names.SpaceOrTab (text.start p) None ∷ []) ++ event Exit names.SpaceOrTab (text.start end) None ∷ [])
        (spaced (w - takes w codes) k) config
    pub apart : is_feed config.previous ≡ false
    pub flags : KeepsFlags c config
    pub sees : SeesColumns text end (drop (takes w codes) codes)

  abbrev pub TakenIf : Bool → List Event → Config W → Point → ℕ → List ℕ → Type 0
  TakenIf true es c p w codes = Taken es c p w codes
  TakenIf false es c p w codes = (d : Config W) × ReadsBy bodies text c (states.Retry start) d false

  module _ (es : List Event) (w : ℕ) (c : Config W) (p : Point) (at : AtHand text c p) (here : Here text c0 es (spaced w k) c) (whole : k.connect ≡ false) where
    refused : run (bodies start) c ≡ plain c states.Nok → (d : Config W) × ReadsBy bodies text c (states.Retry start) d false
    refused e = (c, fails bodies text c c (states.Retry start) (does bodies text start c c states.Nok e))

    none_if : (codes : List ℕ) → takes w codes ≡ 0 → run (bodies start) c ≡ plain c states.Nok → TakenIf (nat_lt 0 (takes w codes)) es c p w codes
    none_if codes none e = subst (λ (is : Bool). TakenIf is es c p w codes) (sym (ap (nat_lt 0) none)) (refused e)

    -- the first column
    begins : (code : ℕ) (cs : List ℕ) (q : Point) → text.byte (text.start p) ≡ Some (as_byte (text_byte code) q) → SeesColumns text q cs → 0 < w
        → is_white code ≡ true → Taken es c p w (code ∷ cs)
    begins code cs q e s some is =
        let seen : is_space_or_tab (text_byte code) ≡ true = seen_white code ∙ is in
        let size = prefix_more is_white code cs is in
        let count : takes w (code ∷ cs) ≡ suc (takes (w - 1) cs) = omega (arith, some, size) in
        let first : Within (es ++ event Enter names.SpaceOrTab (text.start p) None ∷ []) (w - 1) (feed text (begun c)) q = record {
          at = fed text (begun c) q (at.next (as_byte (text_byte code) q) e);
          here = record {
            events = ap (λ (s : KeptState). c.events ++ event Enter names.SpaceOrTab c.point
                (part_link (record c { tokenize_state = s })) ∷ []) here.kept
                ∙ (ap (λ (connect : Bool). c.events ++ event Enter names.SpaceOrTab c.point
                (part_link (record c { tokenize_state = record k { connect = connect } })) ∷ []) whole
                ∙ (ap (λ (q : Point). c.events ++ event Enter names.SpaceOrTab q None ∷ []) at.point
                ∙ ap (λ (l : List Event). l ++ event Enter names.SpaceOrTab (text.start p) None ∷ []) here.events));
            kept = ap (λ (t : KeptState). spaced (less t.size_c) t) here.kept;
            map = here.map;
            resolvers = here.resolvers;
          };
          apart = ap is_feed (byte_at at e) ∙ white_feed (text_byte code) seen;
        } in
        let o = goes_over cs s (es ++ event Enter names.SpaceOrTab (text.start p) None ∷ []) (w - 1) (feed text (begun c)) first in record {
          config = o.config;
          end = o.end;
          reads = ends_well bodies text c o.config (states.Retry start) (and_on bodies text (does_next bodies text start inside c (begun c)
              (start_does bodies spaces (text_byte code) c (byte_at at e) seen (room w true c here.kept (lt-ltb 0 w some)))) o.goes);
          at = o.there.at;
          here = record {
            events = o.there.here.events;
            kept = o.there.here.kept
                ∙ ap (λ (i : ℕ). spaced i k) (let j : w - 1 - takes (w - 1) cs ≡ w - takes w (code ∷ cs) = omega (arith, some, count) in j);
            map = o.there.here.map;
            resolvers = o.there.here.resolvers;
          };
          apart = o.there.apart;
          flags = record { lazy = o.flags.lazy; pierce = o.flags.pierce };
          sees = subst (λ (i : ℕ). SeesColumns text o.end (drop i (code ∷ cs))) (sym count) o.sees;
        }

    -- at the first column
    pub attempted : (codes : List ℕ) → SeesColumns text p codes → TakenIf (nat_lt 0 (takes w codes)) es c p w codes
    attempted [] (ended e) = none_if [] (omega arith) (start_none bodies spaces c (end_at at e))
    attempted (code ∷ cs) (along {q = q} e s) = elim (cases_lt 0 w) [
      | inl some ↦ elim (cases_Bool (is_white code)) [
        | inl is ↦
            let size = prefix_more is_white code cs is in
            subst (λ (b : Bool). TakenIf b es c p w (code ∷ cs)) (sym (lt-ltb 0 (takes w (code ∷ cs)) (omega (arith, some, size))))
            (begins code cs q e s some is)
        | inr is ↦ none_if (code ∷ cs) (let size = prefix_none is_white code cs is in omega (arith, size)) (start_fails bodies spaces (text_byte code) c
            (byte_at at e) (ap (λ (b : Bool). nat_lt 0 c.tokenize_state.size_c && b) (seen_white code ∙ is) ∙ and_right (nat_lt 0 c.tokenize_state.size_c)
            false refl))
      ]
      | inr none ↦ none_if (code ∷ cs) (omega (arith, none)) (start_fails bodies spaces (text_byte code) c (byte_at at e)
          (ap (λ (b : Bool). b && is_space_or_tab (text_byte code)) (room w false c here.kept (le-ltb 0 w none))))
    ]

module _ {T : Type 0} (here : InLine T) where
  abbrev c : Config Flows
  c = at_hand here

  found : (is : Bool) → TakenIf (flows_bodies here.context) (flows_white here.context) here.text c c.tokenize_state is c.events c here.place
      c.tokenize_state.size_c here.codes → WhiteVerdict here is
  found true o = (
    o.config,
    o.end,
    o.reads,
    record {
      events = o.here.events ∙ append_assoc c.events (event Enter names.SpaceOrTab (here.text.start here.place) None ∷ [])
          (event Exit names.SpaceOrTab (here.text.start o.end) None ∷ []);
      at = o.at;
      kept = o.here.kept;
      map = o.here.map;
      resolvers = o.here.resolvers;
    },
    o.sees,
  )
  found false (d, r) = (d, r)

pub space_or_tab_verdict : (T : Type 0) → SpaceOrTabVerdict T
space_or_tab_verdict T here s whole =
    found here (nat_lt 0 (taken here)) (attempted (flows_bodies here.context) (flows_white here.context) here.text (at_hand here) here.config.tokenize_state
    here.config.events here.config.tokenize_state.size_c (at_hand here) here.place (fed here.text (at_point here.place here.config) here.place refl)
    (record { events = refl; kept = refl; map = refl; resolvers = refl }) whole here.codes s)
