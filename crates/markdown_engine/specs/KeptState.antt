-- What states keep for one another.
use Rattle.std.specs.Prelude.{ℕ, Bool, false, List, [], map, None, Option, string_bytes}
use Rattle.engine_states.specs.declared.container.ContainerState.{ContainerState}
use Rattle.engine_events.specs.declared.event.Content.{Content}
use Rattle.engine_events.specs.declared.event.Name.{Name}
use Rattle.engine_events.specs.declared.event.Name.TheVariants.{Data, SpaceOrTab}
use Rattle.engine_states.specs.declared.label.Label.{Label}
use Rattle.engine_states.specs.declared.label.LabelStart.{LabelStart}
use Rattle.engine_states.specs.declared.state.Name.{Name as StateName}
use Rattle.markdown_engine.specs.declared.tokenize_state.TokenizeState.{TokenizeState}

pub record KeptState : Type 0 where
  pub containers : List ContainerState
  pub definitions : List (List ℕ)
  pub footnotes : List (List ℕ)
  pub label_starts : List LabelStart
  pub label_starts_loose : List LabelStart
  pub labels : List Label
  pub connect : Bool
  pub marker : ℕ
  pub marker_b : ℕ
  pub markers : List ℕ
  pub size : ℕ
  pub size_b : ℕ
  pub size_c : ℕ
  pub start : ℕ
  pub end : ℕ
  pub seen : Bool
  pub token_1 : Name
  pub token_2 : Name
  pub token_3 : Name
  pub token_4 : Name
  pub token_5 : Name
  pub token_6 : Name
  pub space_or_tab_min : ℕ
  pub space_or_tab_max : ℕ
  pub space_or_tab_size : ℕ
  pub space_or_tab_token : Name
  pub space_or_tab_content : Option Content
  pub space_or_tab_connect : Bool
  pub space_or_tab_eol_content : Option Content
  pub space_or_tab_eol_connect : Bool
  pub space_or_tab_eol_ok : Bool
  pub return_to : Option StateName

abbrev pub kept_state : {A : Type 0} → TokenizeState A → KeptState
kept_state t = record {
  containers = t.document_container_stack.items;
  definitions = map string_bytes t.definitions.items;
  footnotes = map string_bytes t.gfm_footnote_definitions.items;
  label_starts = t.label_starts.items;
  label_starts_loose = t.label_starts_loose.items;
  labels = t.labels.items;
  connect = t.connect;
  marker = t.marker;
  marker_b = t.marker_b;
  markers = t.markers.now;
  size = t.size;
  size_b = t.size_b;
  size_c = t.size_c;
  start = t.start;
  end = t.end;
  seen = t.seen;
  token_1 = t.token_1;
  token_2 = t.token_2;
  token_3 = t.token_3;
  token_4 = t.token_4;
  token_5 = t.token_5;
  token_6 = t.token_6;
  space_or_tab_min = t.space_or_tab_min;
  space_or_tab_max = t.space_or_tab_max;
  space_or_tab_size = t.space_or_tab_size;
  space_or_tab_token = t.space_or_tab_token;
  space_or_tab_content = t.space_or_tab_content;
  space_or_tab_connect = t.space_or_tab_connect;
  space_or_tab_eol_content = t.space_or_tab_eol_content;
  space_or_tab_eol_connect = t.space_or_tab_eol_connect;
  space_or_tab_eol_ok = t.space_or_tab_eol_ok;
  return_to = t.return_to;
}

-- nothing kept
abbrev pub nothing_kept : KeptState
nothing_kept = record {
  containers = [];
  definitions = [];
  footnotes = [];
  label_starts = [];
  label_starts_loose = [];
  labels = [];
  connect = false;
  marker = 0;
  marker_b = 0;
  markers = [];
  size = 0;
  size_b = 0;
  size_c = 0;
  start = 0;
  end = 0;
  seen = false;
  token_1 = Data;
  token_2 = Data;
  token_3 = Data;
  token_4 = Data;
  token_5 = Data;
  token_6 = Data;
  space_or_tab_min = 0;
  space_or_tab_max = 0;
  space_or_tab_size = 0;
  space_or_tab_token = SpaceOrTab;
  space_or_tab_content = None;
  space_or_tab_connect = false;
  space_or_tab_eol_content = None;
  space_or_tab_eol_connect = false;
  space_or_tab_eol_ok = false;
  return_to = None;
}
