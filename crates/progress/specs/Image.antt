-- The code's state as an image of the definition's.
use Rattle.std.specs.Prelude.{List, [], ◌∷◌, ℕ, suc, ◌+◌, Float, length}
use Rattle.index.specs.Lent.{count_open, tally}
use Rattle.scene.specs.Links.{reals_used, modifier_link}
use Rattle.scene.specs.Phase.{at_target, at_string_count, Part, at_alias_name, at_string, at_real, at_real_count, at_type, at_integer_count, Phase, at_name, idle, busy}
use Rattle.scene.specs.Reading.{Places}
use Rattle.scene.specs.Statement.{numbers, Statement}
use Rattle.statement.specs.States.{between}
use Rattle.statement.specs.declared.Draft.{Draft}
use Rattle.statement.specs.declared.Phase.{Phase as CodePhase}
use Rattle.statement.specs.declared.State.{State}
use Rattle.statement.specs.declared.Phase.TheVariants as is

-- which word comes next; the first string has a phase of its own, as only its place is kept
abbrev pub phase_of : Part → CodePhase
phase_of at_type = is.Kind
phase_of (at_name t) = is.Name
phase_of (at_string_count t n) = is.StringCount
phase_of (at_string t n [] k) = is.FirstString
phase_of (at_string t n (s ∷ ss) k) = is.LaterString
phase_of (at_integer_count t n ss) = is.IntegerCount
phase_of (at_real_count t n ss) = is.RealCount
phase_of (at_real t n ss rs k) = is.Real
phase_of at_alias_name = is.AliasName
phase_of (at_target n) = is.Target

-- how many words of its kind come after the next one
abbrev pub left_of : Part → ℕ
left_of at_type = 0
left_of (at_name t) = 0
left_of (at_string_count t n) = 0
left_of (at_string t n ss k) = k
left_of (at_integer_count t n ss) = 0
left_of (at_real_count t n ss) = 0
left_of (at_real t n ss rs k) = k
left_of at_alias_name = 0
left_of (at_target n) = 0

-- the reals of the open statement so far
abbrev pub part_reals : Part → List Float
part_reals at_type = []
part_reals (at_name t) = []
part_reals (at_string_count t n) = []
part_reals (at_string t n ss k) = []
part_reals (at_integer_count t n ss) = []
part_reals (at_real_count t n ss) = []
part_reals (at_real t n ss rs k) = numbers rs
part_reals at_alias_name = []
part_reals (at_target n) = []

-- and those of a phase
abbrev pub open_reals : Phase → List Float
open_reals idle = []
open_reals (busy m p) = part_reals p

-- the draft of a part: l the link, p the name's place, q the first string's, u the reals used above
abbrev pub drafted : ℕ → ℕ → ℕ → ℕ → Part → Draft
drafted l p q u at_type = record { kind = 0; modifier = l; target = 0; name = p; size = 0; string = q; strings = 0; real = 0; reals = 0 }
drafted l p q u (at_name t) = record { kind = t; modifier = l; target = 0; name = p; size = 0; string = q; strings = 0; real = 0; reals = 0 }
drafted l p q u (at_string_count t n) = record { kind = t; modifier = l; target = 0; name = p; size = length n; string = q; strings = 0; real = 0; reals = 0 }
drafted l p q u (at_string t n ss k) = record { kind = t; modifier = l; target = 0; name = p; size = length n; string = q; strings = length ss + suc k; real = 0; reals = 0 }
drafted l p q u (at_integer_count t n ss) = record { kind = t; modifier = l; target = 0; name = p; size = length n; string = q; strings = length ss; real = 0; reals = 0 }
drafted l p q u (at_real_count t n ss) = record { kind = t; modifier = l; target = 0; name = p; size = length n; string = q; strings = length ss; real = 0; reals = 0 }
drafted l p q u (at_real t n ss rs k) = record { kind = t; modifier = l; target = 0; name = p; size = length n; string = q; strings = length ss; real = u; reals = length rs + suc k }
drafted l p q u at_alias_name = record { kind = 0; modifier = l; target = 0; name = p; size = 0; string = q; strings = 0; real = 0; reals = 0 }
drafted l p q u (at_target n) = record { kind = 0; modifier = l; target = 0; name = p; size = length n; string = q; strings = 0; real = 0; reals = 0 }

-- the code's state at place n, the statements d read, with a lent index of `size` entries
abbrev pub image : (size n : ℕ) → List Statement → Phase → Places → State
image size n d idle k = between n (length d) (reals_used d) (tally size d)
image size n d (busy m p) k = record { at = n; count = length d; used = reals_used d + length (part_reals p); left = left_of p; looked = count_open size (tally size d) m d; phase = phase_of p; draft = drafted (modifier_link m d) k.name k.string (reals_used d) p }
