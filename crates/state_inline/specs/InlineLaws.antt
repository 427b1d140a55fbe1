-- The machine of texts and strings is lawful.
use Rattle.std.proofs.Common.{◌≡◌, ℕ, Bool, ◌<◌, ◌++◌, true, refl, ap, length, List, [], Option, arith}
use Rattle.engine_events.specs.declared.event.Name.{Name as EventName}
use Rattle.engine_events.specs.declared.place.Point.{Point}
use Rattle.engine_states.specs.declared.state.Inline.{Inline as InlineName}
use Rattle.engine_states.specs.declared.state.Inline.TheVariants as state_inline
use Rattle.engine_states.specs.declared.state.Name.{Name}
use Rattle.engine_states.specs.declared.state.Name.TheVariants.{Inline}
use Rattle.engine_states.specs.declared.state.State.TheVariants as states
use Rattle.markdown_engine.specs.declared.attempt.Attempt.{Attempt}
use Rattle.markdown_engine.specs.Context.{Context}
use Rattle.markdown_engine.specs.Laws.{LawfulAt}
use Rattle.markdown_engine.specs.Machine.{fresh_config}
use Rattle.markdown_engine.specs.Order.{open_after}
use Rattle.markdown_engine.specs.Reading.{Config}
use Rattle.markdown_engine.specs.Resolving.{ResolvesAt, settles_whole}
use Rattle.engine_programs.specs.Bodies.{names_of, step_by}
use Rattle.engine_programs.specs.Sorts.{fits, implies}
use Rattle.engine_programs.specs.Stacks.{program_rank, program_valid}
use Rattle.engine_programs.specs.NameLaws.{implies_holds}
use Rattle.engine_programs.specs.ProgramLaws.{program_begins, program_lawful, program_open, program_resolves}
use Rattle.state_table.specs.declared.Group.{Group}
use Rattle.state_table.specs.declared.Group.TheVariants as groups
use Rattle.state_table.specs.Table.{inline_group, is_in, same_group, sorts}
use Rattle.state_leaves.specs.LeafStates.{leaves_fit}
use Rattle.state_html.specs.HtmlStates.{html_fits}
use Rattle.state_labels.specs.LabelStates.{labels_fit}
use Rattle.state_label_ends.specs.EndStates.{ends_fit}
use Rattle.state_gfm.specs.GfmStates.{gfm_fits}
use Rattle.state_resolvers.specs.Resolving.{inline_resolved}
use Rattle.state_resolvers.specs.ResolvingLaws.{resolves_whole}
use Rattle.state_inline.specs.declared.inlines.Inlines.{Inlines}
use Rattle.state_inline.specs.Inlines.{bodies, body_of, whole_body}

-- states of texts and strings fit the table
whole_fits : (n : InlineName) → implies (is_in groups.Whole n) (fits sorts 64 (Inline n) (whole_body n)) ≡ true
whole_fits state_inline.TextStart = refl
whole_fits n = refl

module _ {T : Type 0} (texts : List ℕ → Option (List ℕ)) (is_punctuation : ℕ → Bool) (x : Context T) where
  -- each group has its own test
  group_fits : (g : Group) (n : InlineName) → inline_group n ≡ g → fits sorts 64 (Inline n) (body_of texts is_punctuation x g n) ≡ true
  group_fits groups.Leaves n e = implies_holds _ _ (leaves_fit Inlines texts x n) (ap (λ (g : Group). same_group g groups.Leaves) e)
  group_fits groups.Html n e = implies_holds _ _ (html_fits Inlines x n) (ap (λ (g : Group). same_group g groups.Html) e)
  group_fits groups.Labels n e = implies_holds _ _ (labels_fit Inlines x n) (ap (λ (g : Group). same_group g groups.Labels) e)
  group_fits groups.Ends n e = implies_holds _ _ (ends_fit Inlines x n) (ap (λ (g : Group). same_group g groups.Ends) e)
  group_fits groups.Gfm n e = implies_holds _ _ (gfm_fits Inlines is_punctuation x n) (ap (λ (g : Group). same_group g groups.Gfm) e)
  group_fits groups.Whole n e = implies_holds _ _ (whole_fits n) (ap (λ (g : Group). same_group g groups.Whole) e)

  -- the bodies fit the table
  inline_fits : (n : Name) → fits sorts 64 n (bodies texts is_punctuation x n) ≡ true
  unfolding bodies
  inline_fits (Inline n) = group_fits (inline_group n) n refl
  inline_fits n = refl

  least : 1 < 64
  least = omega arith

  pub inline_lawful : LawfulAt (length x.bytes) (program_valid sorts 64 (length x.bytes)) (step_by (bodies texts is_punctuation x))
      (program_rank sorts 64 (length x.bytes))
  inline_lawful = program_lawful sorts 64 (length x.bytes) (bodies texts is_punctuation x) least inline_fits

  pub inline_resolves : ResolvesAt {M = Inlines} (program_valid sorts 64 (length x.bytes)) (inline_resolved is_punctuation x) settles_whole
  inline_resolves = resolves_whole is_punctuation x (program_valid sorts 64 (length x.bytes))
      (program_resolves sorts 64 (length x.bytes) (bodies texts is_punctuation x) least inline_fits)

-- what is open where a state is called
pub inline_open : {T : Type 0} (texts : List ℕ → Option (List ℕ)) (is_punctuation : ℕ
    → Bool) (x : Context T) (c : Config Inlines) (stack : List Attempt) (n : Name) → program_valid sorts 64 (length x.bytes) c stack (states.Retry n)
    → (rest : List EventName) × (open_after [] c.events ≡ names_of c.tokenize_state (sorts n).open_tokens ++ rest)
inline_open texts is_punctuation x c stack n h =
    program_open sorts 64 (length x.bytes) (bodies texts is_punctuation x) (least texts is_punctuation x) (inline_fits texts is_punctuation x) c stack n h

-- reading may begin with a text, or with a string
pub text_begins : (size : ℕ) (machine : Inlines) (p : Point) → program_valid sorts 64 size (fresh_config p machine) []
    (states.Next (Inline state_inline.TextStart))
text_begins size machine p = program_begins sorts 64 size (Inline state_inline.TextStart) machine p refl refl refl refl

pub string_begins : (size : ℕ) (machine : Inlines) (p : Point)
    → program_valid sorts 64 size (fresh_config p machine) [] (states.Next (Inline state_inline.StringStart))
string_begins size machine p = program_begins sorts 64 size (Inline state_inline.StringStart) machine p refl refl refl refl
