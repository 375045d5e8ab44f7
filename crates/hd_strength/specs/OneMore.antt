-- Logs whose live edits differ by one.
-- Source: this project.
use Rattle.std.specs.Prelude.{◌≡◌, ◌+◌, Bool, if◌then◌else◌, List, count_by}
use Rattle.hd_terms.specs.declared.Edit.{Edit}
use Rattle.hd_terms.specs.declared.Event.{Event}
use Rattle.hd_terms.specs.Log.{live_edits}

-- some edits are others and one more, in whatever order: each test is passed by one more where that one passes it, and else
-- by as many
abbrev pub AreOneMore : (fewer more : List Edit) → Edit → Type 0
AreOneMore fewer more edit = (test : Edit → Bool) → count_by test more ≡ count_by test fewer + (if test edit then 1 else 0)

-- the live edits of one log are those of another and one more
abbrev pub HasEditMore : (fewer more : List Event) → Edit → Type 0
HasEditMore fewer more edit = AreOneMore (live_edits fewer) (live_edits more) edit
