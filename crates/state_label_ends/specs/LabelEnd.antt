-- What the states of `label_end` do.
use Rattle.std.specs.Prelude.{is_some, ℕ, Bool, true, false, not, nat_lt, List, Option, None, Some, refl, length, take, ◌==◌, ◌&&◌, ◌||◌, ◌-◌, ◌∷◌, ◌++◌, []}
use Rattle.std.specs.Prelude.{if◌then◌else◌}
use Rattle.engine_events.specs.declared.event.Name.TheVariants as names
use Rattle.engine_states.specs.declared.resolve.Name.TheVariants as resolvers
use Rattle.engine_states.specs.declared.state.Inline.TheVariants as state_inline
use Rattle.engine_states.specs.declared.state.State.TheVariants as states
use Rattle.markdown_engine.specs.Context.{Context}
use Rattle.markdown_engine.specs.Reading.{Config}
use Rattle.engine_programs.specs.Bodies.{FixedName, Body, Answer, Enter, Exit, Keep, Hold, RegisterFirst, Tries, Byte, On, Test, around}
use Rattle.state_table.specs.Words.{next, retry, disconnect}
use Rattle.engine_states.specs.contracts.label.LabelKind.{the_type}
use Rattle.engine_states.specs.declared.label.Label.{Label}
use Rattle.engine_states.specs.declared.label.LabelKind.TheVariants as kinds
use Rattle.engine_states.specs.declared.label.LabelStart.{LabelStart}
use Rattle.engine_states.specs.declared.state.Inline.{Inline as InlineName}
use Rattle.state_label_ends.specs.Definitions.{has_kind, is_among, is_defined, label_text, last_start, plus}
use denote.Enum.Bare.{sameb}
use Rattle.definition_text.specs.Ascii.{tab, line_feed, space, double_quote, single_quote, left_parenthesis, right_parenthesis, left_bracket, right_bracket}

-- ---- starts

abbrev pub without_last : List LabelStart → List LabelStart
without_last starts = take (length starts - 1) starts

-- a start before the last link or call that was formed begins none
abbrev pub is_inactive : ℕ → Option LabelStart → Bool
is_inactive formed None = false
is_inactive formed (Some s) = not (sameb the_type s.kind kinds.Image) && nat_lt s.start.0 formed

-- a footnote's start that is no call
abbrev pub undefined_start : Option LabelStart → List LabelStart
undefined_start None = []
undefined_start (Some s) = record s { kind = kinds.GfmUndefinedFootnote } ∷ []

-- the label that is formed with the last start
abbrev pub formed_label : ℕ → ℕ → Option LabelStart → List Label
formed_label end count None = []
formed_label end count (Some s) = let label : Label = record { kind = s.kind; start = s.start; end = (end, count - 1) } in label ∷ []

-- where the last link or call that was formed began
abbrev pub formed_start : ℕ → Option LabelStart → ℕ
formed_start formed None = formed
formed_start formed (Some s) = if sameb the_type s.kind kinds.Image then formed else s.start.0

abbrev pub start_list : Option LabelStart → List LabelStart
start_list None = []
start_list (Some s) = s ∷ []

-- ---- parts of states

module _ {M : Type 0} where
  abbrev pub has_start : Config M → Bool
  has_start c = is_some (last_start c.tokenize_state.label_starts)

  -- the text after the last start is one of these
  abbrev pub is_start_defined : List ℕ → List (List ℕ) → Config M → Bool
  is_start_defined bytes labels c = is_defined bytes labels c.events c.tokenize_state.end (last_start c.tokenize_state.label_starts)

  -- what may follow a text, that is defined or not
  abbrev pub end_follow : InlineName → Body M
  end_follow other =
      On (λ b. b == left_parenthesis) (Tries false (next state_inline.LabelEndOk) (next other) (retry state_inline.LabelEndResourceStart))
      (On (λ b. b == left_bracket) (Tries false (next state_inline.LabelEndOk) (next state_inline.LabelEndReferenceNotFull)
      (retry state_inline.LabelEndReferenceFull))
      (Answer (retry other)))

  abbrev pub end_after_link : List ℕ → List (List ℕ) → Body M
  end_after_link bytes definitions = Test (is_start_defined bytes definitions) (end_follow state_inline.LabelEndOk) (end_follow state_inline.LabelEndNok)

  -- the last start is no call
  abbrev pub end_undefine : Body M → Body M
  end_undefine b =
      Keep (λ c. record c.tokenize_state {
        label_starts = without_last c.tokenize_state.label_starts
            ++ undefined_start (last_start c.tokenize_state.label_starts);
      }) (λ c i. refl) b

  abbrev pub end_form : Body M
  end_form =
      Test has_start
      (Keep (λ c. record c.tokenize_state {
        label_starts = without_last c.tokenize_state.label_starts;
        labels = c.tokenize_state.labels ++ formed_label c.tokenize_state.end (length c.events) (last_start c.tokenize_state.label_starts);
        start = formed_start c.tokenize_state.start (last_start c.tokenize_state.label_starts);
        end = 0;
      }) (λ c i. refl)
      (RegisterFirst resolvers.Label (Answer states.Ok)))
      (Answer states.Nok)

  abbrev pub end_loosen : Body M
  end_loosen =
      Keep (λ c. record c.tokenize_state {
        label_starts = without_last c.tokenize_state.label_starts;
        label_starts_loose = c.tokenize_state.label_starts_loose ++ start_list (last_start c.tokenize_state.label_starts);
        end = 0;
      }) (λ c i. refl)
      (Answer states.Nok)

  -- the label of a full reference is one of these
  abbrev pub is_reference_defined : List ℕ → List (List ℕ) → Config M → Bool
  is_reference_defined bytes definitions c = is_among definitions (label_text bytes c.events (plus 7 c.tokenize_state.end) (length c.events - 4))

module _ {M : Type 0} where
  -- at a `]`
  abbrev pub label_end_start : Bool → Body M
  label_end_start on =
      Byte (Answer states.Nok)
      (On (λ b. b == right_bracket)
      (Test (λ c. on)
      (Test has_start
      (Keep (λ c. record c.tokenize_state { end = length c.events }) (λ c i. refl)
      (Test (λ c. is_inactive c.tokenize_state.start (last_start c.tokenize_state.label_starts))
      (Answer (retry state_inline.LabelEndNok))
      (Enter (FixedName names.LabelEnd)
      (around (FixedName names.LabelMarker) (Exit (FixedName names.LabelEnd) (Answer (next state_inline.LabelEndAfter)))))))
      (Answer states.Nok))
      (Answer states.Nok))
      (Answer states.Nok))

  -- after the `]`
  abbrev pub label_end_after : Bool → List ℕ → List (List ℕ) → List (List ℕ) → Body M
  label_end_after links bytes definitions footnotes =
      Test (λ c. not (has_kind kinds.GfmFootnote (last_start c.tokenize_state.label_starts))) (end_after_link bytes definitions)
      (Test (is_start_defined bytes footnotes) (Answer (retry state_inline.LabelEndOk))
      (Test (λ c. links) (end_undefine (end_after_link bytes definitions)) (Answer (retry state_inline.LabelEndNok))))

  -- the same, by what the text is read with
  abbrev pub label_end_read : {T : Type 0} → Context T → Body M
  label_end_read x = label_end_after x.options.constructs.label_start_link x.bytes x.definitions x.footnotes

  -- where no full reference is: after a label that isn't defined there is no other
  abbrev pub label_end_reference_not_full : List ℕ → List (List ℕ) → Body M
  label_end_reference_not_full bytes definitions =
      Test (λ c. c.tokenize_state.seen) (Answer (retry state_inline.LabelEndNok))
      (Test (is_start_defined bytes definitions)
      (Tries false (next state_inline.LabelEndOk) (next state_inline.LabelEndOk) (retry state_inline.LabelEndReferenceCollapsed))
      (Answer (retry state_inline.LabelEndNok)))

  -- where a link, an image or a call ends
  abbrev pub label_end_ok : Body M
  label_end_ok =
      end_form

  -- where none ends
  abbrev pub label_end_nok : Body M
  label_end_nok =
      end_loosen

  -- at a `(`
  abbrev pub label_end_resource_start : Body M
  label_end_resource_start =
      Byte (Answer states.Nok)
      (On (λ b. b == left_parenthesis)
      (disconnect (Enter (FixedName names.Resource) (around (FixedName names.ResourceMarker) (Answer (next state_inline.LabelEndResourceBefore)))))
      (Answer states.Nok))

  -- after the `(`
  abbrev pub label_end_resource_before : Body M
  label_end_resource_before =
      On (λ b. (b == tab) || (b == line_feed) || (b == space))
      (Tries false (next state_inline.LabelEndResourceOpen) (next state_inline.LabelEndResourceOpen) (retry state_inline.SpaceOrTabEolStart))
      (Answer (retry state_inline.LabelEndResourceOpen))

  -- before a destination, or at the `)`
  abbrev pub label_end_resource_open : Body M
  label_end_resource_open =
      On (λ b. b == right_parenthesis) (Answer (retry state_inline.LabelEndResourceEnd))
      (Hold 1 names.ResourceDestination
      (Hold 2 names.ResourceDestinationLiteral
      (Hold 3 names.ResourceDestinationLiteralMarker
      (Hold 4 names.ResourceDestinationRaw
      (Hold 5 names.ResourceDestinationString
      (Keep (λ c. record c.tokenize_state { size_b = 32 }) (λ c i. refl)
      (Tries false (next state_inline.LabelEndResourceDestinationAfter) (next state_inline.LabelEndResourceDestinationMissing)
      (retry state_inline.DestinationStart))))))))

  -- after the destination
  abbrev pub label_end_resource_destination_after : Body M
  label_end_resource_destination_after =
      On (λ b. (b == tab) || (b == line_feed) || (b == space))
      (Tries false (next state_inline.LabelEndResourceBetween) (next state_inline.LabelEndResourceEnd) (retry state_inline.SpaceOrTabEolStart))
      (Answer (retry state_inline.LabelEndResourceEnd))

  -- where no destination is
  abbrev pub label_end_resource_destination_missing : Body M
  label_end_resource_destination_missing =
      Answer states.Nok

  -- after the destination and white space
  abbrev pub label_end_resource_between : Body M
  label_end_resource_between =
      On (λ b. (b == double_quote) || (b == single_quote) || (b == left_parenthesis))
      (Hold 1 names.ResourceTitle
      (Hold 2 names.ResourceTitleMarker
      (Hold 3 names.ResourceTitleString
      (Tries false (next state_inline.LabelEndResourceTitleAfter) states.Nok (retry state_inline.TitleStart)))))
      (Answer (retry state_inline.LabelEndResourceEnd))

  -- after the title
  abbrev pub label_end_resource_title_after : Body M
  label_end_resource_title_after =
      On (λ b. (b == tab) || (b == line_feed) || (b == space))
      (Tries false (next state_inline.LabelEndResourceEnd) (next state_inline.LabelEndResourceEnd) (retry state_inline.SpaceOrTabEolStart))
      (Answer (retry state_inline.LabelEndResourceEnd))

  -- at the `)`
  abbrev pub label_end_resource_end : Body M
  label_end_resource_end =
      Byte (Answer states.Nok)
      (On (λ b. b == right_parenthesis) (around (FixedName names.ResourceMarker) (Exit (FixedName names.Resource) (Answer states.Ok))) (Answer states.Nok))

  -- at a `[`
  abbrev pub label_end_reference_full : Body M
  label_end_reference_full =
      Byte (Answer states.Nok)
      (On (λ b. b == left_bracket)
      (Hold 1 names.Reference
      (Hold 2 names.ReferenceMarker
      (Hold 3 names.ReferenceString
      (Tries false (next state_inline.LabelEndReferenceFullAfter) (next state_inline.LabelEndReferenceFullMissing) (retry state_inline.LabelStart)))))
      (Answer states.Nok))

  -- after a label
  abbrev pub label_end_reference_full_after : List ℕ → List (List ℕ) → Body M
  label_end_reference_full_after bytes definitions =
      Keep (λ c. record c.tokenize_state { seen = true }) (λ c i. refl)
      (Test (is_reference_defined bytes definitions) (Answer states.Ok) (Answer states.Nok))

  -- where no label is
  abbrev pub label_end_reference_full_missing : Body M
  label_end_reference_full_missing =
      Keep (λ c. record c.tokenize_state { seen = false }) (λ c i. refl) (Answer states.Nok)

  -- at a `[`
  abbrev pub label_end_reference_collapsed : Body M
  label_end_reference_collapsed =
      Byte (Answer states.Nok)
      (On (λ b. b == left_bracket)
      (Enter (FixedName names.Reference) (around (FixedName names.ReferenceMarker) (Answer (next state_inline.LabelEndReferenceCollapsedOpen))))
      (Answer states.Nok))

  -- at the `]`
  abbrev pub label_end_reference_collapsed_open : Body M
  label_end_reference_collapsed_open =
      Byte (Answer states.Nok)
      (On (λ b. b == right_bracket) (around (FixedName names.ReferenceMarker) (Exit (FixedName names.Reference) (Answer states.Ok))) (Answer states.Nok))
