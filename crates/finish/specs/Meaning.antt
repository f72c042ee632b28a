-- The finish as the statements have it.
use Rattle.std.specs.Prelude.{cond, List, [], ◌∷◌, ℕ, suc, length}
use Rattle.laws.specs.Bytes.{Bytes, same}
use Rattle.scene.specs.Links.{hits, own_body, type_in}
use Rattle.scene.specs.Statement.{Statement, void}
use Rattle.scene.specs.Types.{is_material}
use Rattle.finish.specs.Finish.{Finish, Reached}

-- The first material reached from a modifier w, after k links, among the statements above it, latest first: a modifier `void`
-- ends the walk with 0; any other leads to the latest statement that gives the name, whose type is its target's if it is an alias; only
-- a mixfunc is passed through
unfoldable pub finish_in : Bytes → List Statement → ℕ → Finish
finish_in w [] k = Reached 0 k
finish_in w (s ∷ d) k =
    let here = Reached (suc (length d)) (suc k) in
    let through = finish_in s.modifier d (suc k) in
    let miss = finish_in w d k in
    cond (same w void) (Reached 0 k) (cond (hits w s) (cond (is_material (type_in (own_body s.body d))) here through) miss)
