-- An attempt at frontmatter reads all of its lines where the definition has it, and fails elsewhere.
use Rattle.std.proofs.Common.{◌≡◌, ◌∙◌, ℕ, ◌^◌, ◌<◌, Bool, true, false, not, ◌==◌, ◌&&◌, if◌then◌else◌, List, [], ◌∷◌, ◌++◌, drop, length, Option, Some, None, refl, sym}
use Rattle.std.proofs.Common.{ap, subst, arith, append_assoc}
use Rattle.state_verdicts.proofs.BlockPrelude.{after_line, as_byte, byte, byte_of, Config, Context, eqb-true, event, Event, has, is_inner, KeptState}
use Rattle.state_verdicts.proofs.BlockPrelude.{line_of, LineEnds, Name, nothing, plain, Point, run, Sees, SkipsOnce, State, tab, Text, text_byte}
use Rattle.state_verdicts.proofs.BlockPrelude.{with_exit}
use Rattle.definition_block.specs.Frontmatter.{after_frontmatter, after_metadata_fence, is_metadata_fence}
use Rattle.definition_text.specs.Lines.{TextLine}
use Rattle.markdown_options.specs.declared.configuration.Constructs.{Constructs}
use Rattle.engine_events.specs.declared.event.Kind.TheVariants.{Exit}
use Rattle.engine_events.specs.declared.event.Name.TheVariants as names
use Rattle.engine_programs.specs.Bodies.{Body}
use Rattle.engine_states.specs.declared.state.Block.TheVariants as state_block
use Rattle.engine_states.specs.declared.state.Name.TheVariants.{Block}
use Rattle.engine_states.specs.declared.state.State.TheVariants as states
use Rattle.state_document.specs.Blocks.{blocks_bodies}
use Rattle.state_document.specs.Readers.{Calls}
use Rattle.state_verdicts.specs.DocumentVerdicts.{GoesOn, InDocument, at_hand, line}
use Rattle.state_verdicts.specs.Machines.{Leaves}
use Rattle.state_verdicts.specs.Frontmatter.{FrontmatterWholeVerdict, MetadataLines, OpeningVerdict, WholeVerdict, after_events, fencing}
use Rattle.state_verdicts.specs.Frontmatter.{is_metadata_byte, metadata_byte, opening_events}
use Rattle.state_verdicts.specs.Lines.{code_lines, has_ending, is_filled}
use Rattle.state_verdicts.specs.WhiteSpace.{ending_events}
use Rattle.state_verdicts.proofs.FrontmatterLines.{Closed, Outcome, after, content_end, over_lines}
use Rattle.state_verdicts.proofs.FrontmatterReads.{frontmatter_verdict}
use Rattle.state_verdicts.proofs.LineCodes.{first_line_is, line_within, rest_within}
use Rattle.state_verdicts.proofs.MachineTurns.{and_on, byte_at, does, end_at, ends_well, fails}
use Rattle.state_verdicts.proofs.Markers.{flip}
use Rattle.state_verdicts.proofs.Standing.{ended_events, exits, Here, past_ending}

-- ---- what the definition says

-- the byte of a fence, by two tests
abbrev byte_by : Bool → Bool → Option ℕ
byte_by hyphens pluses = if hyphens then Some 45 else (if pluses then Some 43 else None)

abbrev opened_by : Bool → Bool → Bool → Bool → Option ℕ
opened_by on ending hyphens pluses = if on && ending then byte_by hyphens pluses else None

-- the lines after it
abbrev after_by : Bool → Bool → Bool → (ℕ → Option (List TextLine)) → Option (List TextLine)
after_by on hyphens pluses f = if on && hyphens then f 45 else (if on && pluses then f 43 else None)

not_opened : (on ending hyphens pluses : Bool) (f : ℕ → Option (List TextLine)) → (ending ≡ false → (m : ℕ) → f m ≡ None)
    → opened_by on ending hyphens pluses ≡ None → after_by on hyphens pluses f ≡ None
not_opened false ending hyphens pluses f none h = refl
not_opened true false true pluses f none h = none refl 45
not_opened true false false true f none h = none refl 43
not_opened true false false false f none h = refl
not_opened true true true pluses f none h = absurd (cc)
not_opened true true false true f none h = absurd (cc)
not_opened true true false false f none h = refl

-- the opening line is one
record IsOpened (on ending hyphens pluses : Bool) (byte : ℕ) (f : ℕ → Option (List TextLine)) : Type 0 where
  pub ends : ending ≡ true
  pub byte_is : byte_by hyphens pluses ≡ Some byte
  pub fence : is_metadata_byte byte ≡ true
  pub after_is : after_by on hyphens pluses f ≡ f byte

is_opened : (on ending hyphens pluses : Bool) (m : ℕ) (f : ℕ → Option (List TextLine)) → opened_by on ending hyphens pluses ≡ Some m
    → IsOpened on ending hyphens pluses m f
is_opened false ending hyphens pluses m f h = absurd (cc)
is_opened true false hyphens pluses m f h = absurd (cc)
is_opened true true true pluses m f h =
    let e : 45 ≡ m = cc in record { ends = refl; byte_is = h; fence = sym (ap is_metadata_byte e); after_is = ap f e }
is_opened true true false true m f h =
    let e : 43 ≡ m = cc in record { ends = refl; byte_is = h; fence = sym (ap is_metadata_byte e); after_is = ap f e }
is_opened true true false false m f h = absurd (cc)

-- the definition by these tests
definition_is : (on : Constructs) (codes : List ℕ) → after_frontmatter on (code_lines codes)
    ≡ after_by on.frontmatter (is_metadata_fence 45 (line_of codes)) (is_metadata_fence 43 (line_of codes))
    (λ m. after_metadata_fence m (code_lines (drop 1 (after_line codes))))
definition_is on [] = none_by on.frontmatter
  where
    none_by : (b : Bool) → None ≡ after_by b false false (λ m. after_metadata_fence m [])
    none_by true = refl
    none_by false = refl
definition_is on (code ∷ cs) = ap (after_frontmatter on) (first_line_is code cs).is

-- no line follows one that has no ending
none_after : (l : List ℕ) → is_filled l ≡ false → (m : ℕ) → after_metadata_fence m (code_lines (drop 1 l)) ≡ None
none_after [] h m = refl
none_after (c ∷ cs) h m = absurd (let f : true ≡ false = h in cc)

-- ---- what the last state does

module _ {T V : Type 0} (calls : Calls T V) (x : Context T) where
  abbrev left_open : Config V → Config V
  left_open c = with_exit names.Frontmatter c

  after_none : (c : Config V) → c.current ≡ None → run (blocks_bodies calls x after) c ≡ plain (left_open c) states.Ok
  unfolding blocks_bodies
  after_none c h = rw h refl

  after_line_does : (c : Config V) → c.current ≡ Some 10 → run (blocks_bodies calls x after) c ≡ plain (past_ending (left_open c)) states.Ok
  unfolding blocks_bodies
  after_line_does c h = rw h refl

-- ---- reading

module _ {T V : Type 0} (here : InDocument T V) (once : SkipsOnce here.text) (small : length here.codes < 2 ^ 62)
    (whole : here.config.tokenize_state.connect ≡ false) where
  abbrev c0 : Config V
  c0 = at_hand here

  abbrev bodies : Name → Body V
  bodies = blocks_bodies here.calls here.context

  abbrev text : Text
  text = here.text

  abbrev begins : State
  begins = states.Retry (Block state_block.FrontmatterStart)

  abbrev on : Bool
  on = here.context.options.constructs.frontmatter

  abbrev hyphens : Bool
  hyphens = is_metadata_fence 45 (line here)

  abbrev pluses : Bool
  pluses = is_metadata_fence 43 (line here)

  -- the lines after the next fence of a byte
  abbrev lines_after : ℕ → Option (List TextLine)
  lines_after m = after_metadata_fence m (code_lines (drop 1 (after_line here.codes)))

  module _ (byte_is : ℕ) (opened : IsOpened on (has_ending here.codes) hyphens pluses byte_is lines_after) (d : Config V) (columns : ℕ) (mid first : Point)
      (goes : GoesOn here c0 begins d (states.Retry content_end))
      (leaves : Leaves text c0 d (fencing byte_is columns here.config.tokenize_state)
      (opening_events (drop 3 here.codes) (text.start here.place) (text.start mid) (text.start first)) first)
      (sees_mid : Sees text mid (drop 3 here.codes)) (ends : LineEnds text first) where
    abbrev kept : KeptState
    kept = fencing byte_is columns here.config.tokenize_state

    abbrev Rest : Option (List TextLine) → List ℕ → Type 0
    Rest o codes = Outcome here.calls here.context text once byte_is opened.fence kept refl whole c0 o d first codes

    -- the closing fence was read
    module _ (others : List TextLine) (z : Closed here.calls here.context text once byte_is opened.fence kept refl whole c0 d first (after_line here.codes) others)
      where
        stands : Here text c0 z.config.events z.config.tokenize_state z.config
        stands = record { events = refl; kept = refl; map = z.map; resolvers = z.resolvers }

        left_events : (left_open here.calls here.context z.config).events ≡ z.config.events ++ event Exit names.Frontmatter (text.start z.end) None ∷ []
        left_events = (exits text c0 names.Frontmatter stands z.apart z.at.point).events

        regroup : (l a b : List Event) (e : Event) (y : List Event) → (((l ++ a) ++ b) ++ e ∷ []) ++ y ≡ l ++ (a ++ (b ++ (e ∷ y)))
        regroup l a b e y = simp append_assoc refl

        plain_group : (l a b y : List Event) → ((l ++ a) ++ b) ++ y ≡ l ++ (a ++ (b ++ y))
        plain_group l a b y = simp append_assoc refl

        abbrev opening : List Event
        opening = opening_events (drop 3 here.codes) (text.start here.place) (text.start mid) (text.start first)

        inside_is : z.config.events ≡ (c0.events ++ opening) ++ z.inside
        inside_is = z.events ∙ ap (λ (l : List Event). l ++ z.inside) leaves.events

        feed_at : {b : ℕ} {r : Point} → text.byte (text.start z.end) ≡ Some (as_byte b r) → b ≡ 10
        feed_at {b} e = eqb-true b 10 (flip (b == 10) (sym (ap (λ v. has (λ i. not (i == 10)) (byte_of v)) e) ∙ z.ends))

        by_left : (l : List ℕ) → z.left ≡ l → Sees text z.end l → WholeVerdict here (Some others)
        by_left [] is (nothing none) = (
          left_open here.calls here.context z.config,
          byte_is,
          z.columns,
          mid,
          first,
          z.end,
          z.inside,
          [],
          ends_well bodies text c0 (left_open here.calls here.context z.config) begins (and_on bodies text goes (and_on bodies text z.goes
              (does bodies text after z.config (left_open here.calls here.context z.config) states.Ok
              (after_none here.calls here.context z.config (end_at z.at none))))),
          left_events ∙ (ap (λ (l : List Event). l ++ event Exit names.Frontmatter (text.start z.end) None ∷ []) inside_is
              ∙ plain_group c0.events opening z.inside (event Exit names.Frontmatter (text.start z.end) None ∷ [])),
          opened.byte_is,
          sees_mid,
          subst (λ (l : List ℕ). MetadataLines text byte_is (after_line here.codes) first z.inside z.end l) is z.lines,
          z.kept,
          z.map,
          z.resolvers,
          nothing (ap (λ (p : Point). text.byte (text.start p)) z.at.point ∙ (ap text.byte (once z.end) ∙ none)),
          ap (λ (l : List ℕ). code_lines (drop 1 l)) (sym is) ∙ z.is,
        )
        by_left (code ∷ codes) is (byte {q = r} apart e s) =
            let at_feed : text.byte (text.start z.end) ≡ Some (as_byte 10 r) = e ∙ ap (λ (i : ℕ). Some (as_byte i r)) (feed_at e) in
            let next_is : z.config.next ≡ r = z.at.next (as_byte 10 r) at_feed in
            let last : Config V = past_ending (left_open here.calls here.context z.config) in
            let added = ended_events (left_open here.calls here.context z.config) (text.start z.end) r (byte_at z.at at_feed)
            z.at.point next_is in (
              last,
              byte_is,
              z.columns,
              mid,
              first,
              z.end,
              z.inside,
              code ∷ codes,
              ends_well bodies text c0 last begins (and_on bodies text goes (and_on bodies text z.goes
                  (does bodies text after z.config last states.Ok (after_line_does here.calls here.context z.config (byte_at z.at at_feed))))),
              added ∙ (ap (λ (l : List Event). l ++ ending_events (text.start z.end) r)
                  (left_events ∙ ap (λ (l : List Event). l ++ event Exit names.Frontmatter (text.start z.end) None ∷ []) inside_is)
                  ∙ (regroup c0.events opening z.inside (event Exit names.Frontmatter (text.start z.end) None) (ending_events (text.start z.end) r)
                  ∙ ap (λ (q : Point). c0.events ++ (opening ++ (z.inside ++ after_events true (text.start z.end) q))) (sym next_is))),
              opened.byte_is,
              sees_mid,
              subst (λ (l : List ℕ). MetadataLines text byte_is (after_line here.codes) first z.inside z.end l) is z.lines,
              z.kept,
              z.map,
              z.resolvers,
              subst (λ (q : Point). Sees text q codes) (sym next_is) s,
              ap (λ (l : List ℕ). code_lines (drop 1 l)) (sym is) ∙ z.is,
            )
        by_left (code ∷ codes) is (tab most e f s) = absurd (let g : 9 ≡ 10 = feed_at e in let h : true ≡ false = ap (λ (i : ℕ). i == 9) g in cc)

    finish : (o : Option (List TextLine)) → Rest o (after_line here.codes) → WholeVerdict here o
    finish None (e, g) = (e, fails bodies text c0 e begins (and_on bodies text goes g))
    finish (Some others) z = by_left others z z.left refl z.sees

    -- from the end of the opening line
    by_rest : (l : List ℕ) → after_line here.codes ≡ l → Sees text first l → WholeVerdict here (after_metadata_fence byte_is (code_lines (drop 1 l)))
    by_rest [] is s = absurd (let g : true ≡ false = sym opened.ends ∙ ap is_filled is in cc)
    by_rest (code ∷ codes) is (byte {q = q} apart e s) =
        let at_feed : text.byte (text.start first) ≡ Some (as_byte 10 q) = e ∙ ap (λ (i : ℕ). Some (as_byte i q))
        (eqb-true (text_byte code) 10 (flip (text_byte code == 10) (sym (ap (λ v. has (λ i. not (i == 10)) (byte_of v)) e) ∙ ends))) in
        let within = rest_within is_inner here.codes in
        let size = ap length is in
        finish (after_metadata_fence byte_is (code_lines codes)) (subst (λ (l : List ℕ). Rest (after_metadata_fence byte_is (code_lines codes)) l) (sym is)
        (over_lines here.calls here.context text once byte_is opened.fence kept refl whole c0 code codes (omega (arith, within, size, small)) d first q
        (record { size = 3; columns = columns; at = leaves.at; kept = leaves.kept; map = leaves.map; resolvers = leaves.resolvers }) at_feed s))
    by_rest (code ∷ codes) is (tab most e f s) = absurd (let g : true ≡ false = sym (ap (λ v. has (λ i. not (i == 10)) (byte_of v)) e) ∙ ends in cc)

  by_opening : (o : Option ℕ) → opened_by on (has_ending here.codes) hyphens pluses ≡ o → OpeningVerdict here o
      → WholeVerdict here (after_by on hyphens pluses lines_after)
  by_opening None e (d, r) =
      subst (λ (o : Option (List TextLine)). WholeVerdict here o)
      (sym (not_opened on (has_ending here.codes) hyphens pluses lines_after (none_after (after_line here.codes)) e)) (d, r)
  by_opening (Some byte_is) e (d, columns, mid, first, goes, leaves, sees_mid, ends, sees) =
      let o = is_opened on (has_ending here.codes) hyphens pluses byte_is lines_after e in
      subst (λ (o : Option (List TextLine)). WholeVerdict here o) (sym o.after_is)
      (by_rest byte_is o d columns mid first goes leaves sees_mid ends (after_line here.codes) refl sees)

pub frontmatter_whole_verdict : (T V : Type 0) → FrontmatterWholeVerdict T V
frontmatter_whole_verdict T V here s once small whole =
    subst (λ (o : Option (List TextLine)). WholeVerdict here o) (sym (definition_is here.context.options.constructs here.codes))
    (by_opening here once small whole
    (if here.context.options.constructs.frontmatter && has_ending here.codes then metadata_byte (line here) else None) refl
    (frontmatter_verdict T V here s once (let l = line_within here.codes in omega (arith, l, small)) whole))
