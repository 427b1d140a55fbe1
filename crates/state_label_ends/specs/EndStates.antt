-- The states of this crate by their names, and that they fit the table.
use Rattle.std.specs.Prelude.{◌≡◌, true, refl}
use Rattle.engine_states.specs.declared.state.Inline.{Inline as InlineName}
use Rattle.engine_states.specs.declared.state.Inline.TheVariants as state_inline
use Rattle.engine_states.specs.declared.state.Name.TheVariants.{Inline}
use Rattle.engine_states.specs.declared.state.State.TheVariants as states
use Rattle.markdown_engine.specs.Context.{Context}
use Rattle.state_table.specs.declared.Group.TheVariants as groups
use Rattle.engine_programs.specs.Bodies.{Body, Answer}
use Rattle.engine_programs.specs.Sorts.{fits, implies}
use Rattle.state_table.specs.Table.{is_in, sorts}
use Rattle.state_label_ends.specs.LabelEnd.{label_end_start, label_end_read, label_end_reference_not_full, label_end_ok, label_end_nok}
use Rattle.state_label_ends.specs.LabelEnd.{label_end_resource_start, label_end_resource_before, label_end_resource_open}
use Rattle.state_label_ends.specs.LabelEnd.{label_end_resource_destination_after, label_end_resource_destination_missing, label_end_resource_between}
use Rattle.state_label_ends.specs.LabelEnd.{label_end_resource_title_after, label_end_resource_end, label_end_reference_full, label_end_reference_full_after}
use Rattle.state_label_ends.specs.LabelEnd.{label_end_reference_full_missing, label_end_reference_collapsed, label_end_reference_collapsed_open}

module _ {T M : Type 0} (x : Context T) where
  abbrev pub end_body : InlineName → Body M
  end_body state_inline.LabelEndStart = label_end_start x.options.constructs.label_end
  end_body state_inline.LabelEndAfter = label_end_read x
  end_body state_inline.LabelEndReferenceNotFull = label_end_reference_not_full x.bytes x.definitions
  end_body state_inline.LabelEndOk = label_end_ok
  end_body state_inline.LabelEndNok = label_end_nok
  end_body state_inline.LabelEndResourceStart = label_end_resource_start
  end_body state_inline.LabelEndResourceBefore = label_end_resource_before
  end_body state_inline.LabelEndResourceOpen = label_end_resource_open
  end_body state_inline.LabelEndResourceDestinationAfter = label_end_resource_destination_after
  end_body state_inline.LabelEndResourceDestinationMissing = label_end_resource_destination_missing
  end_body state_inline.LabelEndResourceBetween = label_end_resource_between
  end_body state_inline.LabelEndResourceTitleAfter = label_end_resource_title_after
  end_body state_inline.LabelEndResourceEnd = label_end_resource_end
  end_body state_inline.LabelEndReferenceFull = label_end_reference_full
  end_body state_inline.LabelEndReferenceFullAfter = label_end_reference_full_after x.bytes x.definitions
  end_body state_inline.LabelEndReferenceFullMissing = label_end_reference_full_missing
  end_body state_inline.LabelEndReferenceCollapsed = label_end_reference_collapsed
  end_body state_inline.LabelEndReferenceCollapsedOpen = label_end_reference_collapsed_open
  end_body n = Answer states.Nok

-- they fit the table
pub ends_fit : (M : Type 0) {T : Type 0} (x : Context T) (n : InlineName)
    → implies (is_in groups.Ends n) (fits sorts 64 (Inline n) (end_body {M = M} x n)) ≡ true
ends_fit M x state_inline.LabelEndStart = refl
ends_fit M x n = refl
