-- Lists and runs as whole bodies, over the width: what the header says, and what stands behind it.
-- Assumes nothing.
use Rattle.std.proofs.Common.{◌≡◌, ℕ, ◌+◌, ◌-◌, ◌/◌, Bool, true, false, eqb, List, ◌++◌, length, refl}
use Rattle.fields.specs.Le.{le, digits, width_of}
use Rattle.model.specs.Tests.{pick}
use Rattle.model.specs.Lists.{runs_of}
use Rattle.forms.specs.Forms.{list_tag, runs_tag, local_layout}
use Rattle.single.specs.Single.{view, fit, view_of, fields_ok}
use Rattle.single.specs.Layout.{plain_layout}

-- ---- a list has no header

pub list_view : (wide : Bool) (span : ℕ) (xs : List ℕ) → view_of (list_tag wide) span xs ≡ view (list_tag wide) false 0 span (fit (length xs / width_of wide)) 0
unfolding view_of pick list_tag width_of
list_view true span xs = refl
list_view false span xs = refl

pub list_fields : (wide : Bool) (xs : List ℕ) → fields_ok (list_tag wide) xs ≡ true
unfolding fields_ok pick list_tag
list_fields true xs = refl
list_fields false xs = refl

pub list_plain : (wide : Bool) (span : ℕ) (rows : List ℕ) → plain_layout (list_tag wide) span rows ≡ local_layout (list_tag wide) span rows
unfolding plain_layout pick list_tag
list_plain true span rows = refl
list_plain false span rows = refl

-- ---- runs have their count and number in front

pub runs_view : (wide : Bool) (span : ℕ) (xs : List ℕ) → view_of (runs_tag wide) span xs ≡ view (runs_tag wide) false 0 span (le 2 xs 0) 4
unfolding view_of pick runs_tag
runs_view true span xs = refl
runs_view false span xs = refl

pub runs_fields : (wide : Bool) (xs : List ℕ) → fields_ok (runs_tag wide) xs ≡ eqb (le 2 xs 2) ((length xs - 4) / (width_of wide + 4))
unfolding fields_ok pick runs_tag width_of
runs_fields true xs = refl
runs_fields false xs = refl

pub runs_plain : (wide : Bool) (span : ℕ) (rows : List ℕ) → plain_layout (runs_tag wide) span rows ≡ digits 2 (length rows) ++ digits 2 (length (runs_of rows)) ++ local_layout (runs_tag wide) span rows
unfolding plain_layout pick runs_tag
runs_plain true span rows = refl
runs_plain false span rows = refl
