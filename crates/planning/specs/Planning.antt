-- Planning: what is answered, and what stands in the output and in the workspace then. Document 01, from its refusals to its bodies.
-- Assumes nothing.
use Rattle.std.specs.Prelude.{List, [], ◌∷◌, ℕ, ◌-◌, ◌*◌, eqb, leb, length, replicate}
use Rattle.model.specs.Tests.{pick, both}
use Rattle.model.specs.Answers.{Answer, accepted, refused, over}
use Rattle.cost.specs.declared.Form.{Form}
use Rattle.model.specs.Lists.{positions_of}
use Rattle.planning.specs.Refusals.{ends_of, early_number}
use Rattle.planning.specs.Segments.{segments_of, offers_for}
use Rattle.planning.specs.Bodies.{form_for, body_of}

-- the rows counted from the start, and the segments that they are merged into
unfoldable pub planned_segments : ℕ → List ℕ → List ℕ → List (List ℕ)
planned_segments start rows seeds = segments_of (positions_of start rows) (ends_of rows seeds)

unfoldable pub planned_offers : ℕ → List ℕ → List ℕ → ℕ
planned_offers start rows seeds = offers_for (positions_of start rows) (ends_of rows seeds)

unfoldable pub planned_form : ℕ → ℕ → List ℕ → List ℕ → Form
planned_form start end rows seeds = form_for (end - start) (positions_of start rows) (planned_segments start rows seeds)

unfoldable pub planned_body : ℕ → ℕ → List ℕ → List ℕ → List ℕ
planned_body start end rows seeds = body_of (end - start) (positions_of start rows) (planned_segments start rows seeds)

-- 6: longer than the limit or than 65,535; 7: longer than the output
unfoldable pub late_number : ℕ → ℕ → ℕ → ℕ
late_number bytes limit room = pick (both (leb bytes limit) (leb bytes 65535)) (pick {A = ℕ} (leb bytes room) 0 7) 6

-- tag, body length, segments after merging, offers
unfoldable pub planned_values : Form → ℕ → ℕ → List ℕ
planned_values f segments offers = f.tag ∷ f.bytes ∷ segments ∷ offers ∷ []

-- a refusal, or these values
unfoldable pub answered : ℕ → List ℕ → Answer
answered number values = pick (eqb number 0) (accepted values) (refused number)

-- the number of the refusal, or 0
unfoldable pub plan_number : ℕ → ℕ → List ℕ → List ℕ → ℕ → ℕ → ℕ → ℕ
plan_number start end rows seeds limit words room =
    pick (eqb (early_number start end rows seeds words) 0) (late_number (planned_form start end rows seeds).bytes limit room) (early_number start end rows seeds words)

unfoldable pub plan_of : ℕ → ℕ → List ℕ → List ℕ → ℕ → ℕ → ℕ → Answer
plan_of start end rows seeds limit words room =
    answered (plan_number start end rows seeds limit words room)
    (planned_values (planned_form start end rows seeds) (length (planned_segments start rows seeds)) (planned_offers start rows seeds))

-- the output: a refusal changes nothing, and bytes beyond the body stay
unfoldable pub plan_out : ℕ → ℕ → List ℕ → List ℕ → ℕ → ℕ → List ℕ → List ℕ
plan_out start end rows seeds limit words out =
    pick (eqb (plan_number start end rows seeds limit words (length out)) 0) (over (planned_body start end rows seeds) out) out

-- the workspace: refusals 1 to 5 leave it; 6, 7 and acceptance leave its first 24 words a seed zero and the rest unchanged
unfoldable pub plan_work : ℕ → ℕ → List ℕ → List ℕ → List ℕ → List ℕ
plan_work start end rows seeds work =
    pick (eqb (early_number start end rows seeds (length work)) 0) (over (replicate (length (ends_of rows seeds) * 24) 0) work) work
