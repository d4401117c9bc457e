-- Code: the list of a box's words, as the code takes it in.
-- Assumes nothing.
use Rattle.std.specs.Prelude.{ℕ, List, map}
use Rattle.box_grants.specs.declared.GrantList.{GrantList}
use Rattle.face_fields.specs.Fields.{span_of}

abbrev pub list_of : ℕ → List ℕ → GrantList
list_of number entries = record { entries = map span_of entries; number = number }
