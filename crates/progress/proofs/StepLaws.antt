-- Each step of the code is the definition's.
use mathlib.Core.Bool.{Bool, true, false, cond}
use mathlib.Core.List.{List, [], ◌∷◌, ◌++◌}
use mathlib.Core.Option.{Option, none, some}
use mathlib.Core.Path.{◌≡◌, refl, ap, sym, ◌∙◌, subst}
use Prim.Native.Nat.{ℕ, zero, suc, ◌+◌, ◌-◌, ◌<◌}
use native.Mathlib.Nat.{add-zero}
use native.Mathlib.Omega.{arith}
use borrow.Author.Tests.{lt-ltb}
use lib.Dec.{leb, ltb}
use lib.Ieee.{Float}
use lib.ListN.{length, length-append}
use Rattle.arguments.specs.Steps.{integer_count_step, integer_counted, real_count_step, real_counted, real_left, real_read, real_step, reals_to, string_count_step, string_counted, string_step, strings_to, with_string}
use Rattle.progress.specs.Goes.{word_ended, Goes}
use Rattle.progress.specs.Image.{image, part_reals}
use Rattle.laws.specs.Bytes.{Bytes, same, bytes}
use Rattle.lexer.specs.Word.{word_fault}
use Rattle.context.proofs.SeenLaws.{FoundAs, source_draft}
use Rattle.index.specs.Lent.{count_open, count_whole, tally}
use Rattle.numeral.specs.Count.{count_of}
use Rattle.numeral.specs.Numeral.{numeral_of, value, refusal, Answer as Numeral}
use Rattle.parser.specs.Steps.{step_of}
use Rattle.scene.proofs.GivesLaws.{next_none}
use Rattle.scene.proofs.TellsLaws.{numbers_length, string_here, string_below, resolve_tail, tail_length}
use Rattle.scene.specs.HouseRules.{breach_at, breach, house_rules}
use Rattle.scene.specs.Links.{type_in, modifier_link, strings_in, latest, reals_used, reals_in, resolve, definition, body_of}
use Rattle.scene.specs.Phase.{integer_count, Outcome, fault, idle, busy, Phase, at_integer_count, at_target, into, done, string_count, typed, at_real, turn, unless_fault, real_count, at_type, taken, at_string_count, at_alias_name, outcome, at_name, strings, reals, at_real_count, real, Turn, onto, Part, at_string}
use Rattle.scene.specs.Reading.{settle, modifier_test, Places, Entry, statements, target_test, note, room_test, test, at_end}
use Rattle.scene.specs.Record.{record_of, string_place, first_real, unless_none}
use Rattle.scene.specs.Statement.{alias, Statement, Literal, void, numbers, Body, literal, primitive}
use Rattle.scene.specs.Types.{is_retired, strings_allowed, reals_allowed, type_number}
use Rattle.scene.specs.declared.Settings.{Settings}
use Rattle.statement.specs.Heads.{going_to, modifier_step, with_kind, with_target, with_name, link_to, typed_as, kind_step, target_step, name_step, target_at}
use Rattle.statement.specs.States.{between, opened}
use Rattle.statement.specs.declared.Draft.{Draft}
use Rattle.statement.specs.declared.Seen.{Seen}
use Rattle.statement.specs.declared.State.{State}
use Rattle.statement.specs.Step.{Step}
use Rattle.statement.specs.declared.Phase.TheVariants as is
use Rattle.statement.specs.Step as to

numbers_snoc : (rs : List Literal) (w : Bytes) (x : Float) → numbers (rs ++ literal w x ∷ []) ≡ numbers rs ++ x ∷ []
numbers_snoc [] w x = refl
numbers_snoc (f ∷ fs) w x = ap {B = List Float} (λ (l : List Float). f.number ∷ l) (numbers_snoc fs w x)

none_snoc : (xs : List Float) (x : Float) (n : ℕ) → unless_none (xs ++ x ∷ []) n ≡ n
none_snoc [] x n = refl
none_snoc (y ∷ xs) x n = refl

-- a word w that stands from p on, after the statements es; u reals are stored, and its name leads to record `number` with the
-- draft o; y and z are the two reals before
module _ (size : ℕ) (r : Settings) (es : List Entry) (k : Places) (p : ℕ) (w : Bytes) (u number looked : ℕ) (o : Draft) (y z : Float) where
  abbrev v : Seen
  v = record { place = p; name = p; size = length w; used = u; found = number; looked = looked; source = o; previous = y; first = z }

  abbrev d : List Statement
  d = statements es

  abbrev after : ℕ
  after = suc (p + length w)

  -- what the definition makes of the word in a phase, beside a step of the code
  abbrev Follows : Phase → Outcome → ℕ → Step → Type 0
  Follows ph a t s = Goes size after es ph (settle (at_end p w ph k es) a t) s

  -- the state behind a modifier, its look-up counted
  abbrev opening : State
  opening = between after (length d) (reals_used d) (count_open size (tally size d) w d)

  abbrev Found : Type 0
  Found = (latest w d ≡ number) × FoundAs es w o number

  step_modifier : (same w void ≡ false → Found) → Follows idle (taken r idle w) (test r d idle w) (modifier_step w r.records opening v)
  unfolding modifier_step
  step_modifier f = go (ltb (length d) r.records) (same w void) refl number (λ h. (f h).0) (λ h. (f h).1)
    where
      linked : (x : ℕ) → modifier_link w d ≡ x → Follows idle (into (busy w at_type)) 0 (going_to opening is.Kind 0 (opened x))
      linked x h = record { phase = busy w at_type; places = note idle p k; goes = refl; is = (λ i. record { at = after; count = length d; used = sym (add-zero (reals_used d)) i; left = 0; looked = count_open size (tally size d) w d; phase = is.Kind; draft = opened (sym h i) }); reals = refl }

      go : (b₁ b₂ : Bool) → same w void ≡ b₂ → (x : ℕ) → (b₂ ≡ false → latest w d ≡ x) → (b₂ ≡ false → FoundAs es w o x)
          → Follows idle (into (busy w at_type)) (cond b₁ (cond b₂ 0 (modifier_test (definition w d))) 6) (cond b₁ (cond b₂ (going_to opening is.Kind 0 (opened 0)) (link_to opening p x)) (to.Refused 6 p))
      go false b₂ h x l f = refl
      go true true h x l f = linked 0 (rw h)
      go true false h zero l f = ap (λ (K : Option Statement). settle (at_end p w idle k es) (into (busy w at_type)) (modifier_test K)) (f refl)
      go true false h (suc j) l f = subst (λ (t : ℕ). Follows idle (into (busy w at_type)) t (going_to opening is.Kind 0 (opened (suc j)))) (sym (f refl).0) (linked (suc j) (rw h (l refl)))

  -- inside a statement with the modifier m
  module _ (m : Bytes) where
    -- what a turn of a part comes to, no test left
    abbrev FollowsPart : Part → Turn → Step → Type 0
    FollowsPart pt t s = Follows (busy m pt) (outcome m t) 0 s

    abbrev before : Part → State
    before pt = image size after d (busy m pt) k

    -- the code's state at the part that follows
    onto_part : (pt next : Part) (s : State) → s ≡ image size after d (busy m next) (note (busy m pt) p k) → part_reals next ≡ part_reals pt ++ [] → FollowsPart pt (onto next) (to.Going s)
    onto_part pt next s e h = record { phase = busy m next; places = note (busy m pt) p k; goes = refl; is = e; reals = h }

    step_kind : FollowsPart at_type (turn r at_type w) (kind_step w r.mode (before at_type) v)
    unfolding kind_step
    step_kind = go (same w (bytes "alias")) (type_number w)
      where
        known : (o : Bool) (t : ℕ) → FollowsPart at_type (cond o (fault 28) (onto (at_name t))) (cond o (to.Refused 28 p) (going_to (before at_type) is.Name 0 (with_kind (before at_type).draft t)))
        known true t = refl
        known false t = onto_part at_type (at_name t) _ refl refl

        go : (q : Bool) (t : ℕ) → FollowsPart at_type (cond q (onto at_alias_name) (typed r.mode t)) (cond q (going_to (before at_type) is.AliasName 0 (before at_type).draft) (typed_as r.mode (before at_type) p t))
        go true t = onto_part at_type at_alias_name _ refl refl
        go false zero = refl
        go false (suc t) = known (is_retired r.mode (suc t)) (suc t)

    step_name : (t : ℕ) → FollowsPart (at_name t) (turn r (at_name t) w) (name_step is.StringCount w (before (at_name t)) v)
    unfolding name_step
    step_name t = go (same w void)
      where
        go : (q : Bool) → FollowsPart (at_name t) (cond q (fault 9) (onto (at_string_count t w))) (cond q (to.Refused 9 p) (going_to (before (at_name t)) is.StringCount 0 (with_name (before (at_name t)).draft p (length w))))
        go true = refl
        go false = onto_part (at_name t) (at_string_count t w) _ refl refl

    step_alias_name : FollowsPart at_alias_name (turn r at_alias_name w) (name_step is.Target w (before at_alias_name) v)
    unfolding name_step
    step_alias_name = go (same w void)
      where
        go : (q : Bool) → FollowsPart at_alias_name (cond q (fault 9) (onto (at_target w))) (cond q (to.Refused 9 p) (going_to (before at_alias_name) is.Target 0 (with_name (before at_alias_name).draft p (length w))))
        go true = refl
        go false = onto_part at_alias_name (at_target w) _ refl refl

    step_string_count : (t : ℕ) (n : Bytes) → FollowsPart (at_string_count t n) (turn r (at_string_count t n) w) (string_count_step w (before (at_string_count t n)) v)
    unfolding string_count_step
    step_string_count t n = go (count_of w)
      where
        many : (j : ℕ) → FollowsPart (at_string_count t n) (strings t n j) (strings_to (before (at_string_count t n)) j)
        many zero = onto_part (at_string_count t n) (at_integer_count t n []) _ refl refl
        many (suc j) = let q : suc j ≡ 0 + suc j = omega arith in onto_part (at_string_count t n) (at_string t n [] j) _ (λ i. record { at = after; count = length d; used = reals_used d + 0; left = j; looked = count_open size (tally size d) m d; phase = is.FirstString; draft = record { kind = t; modifier = modifier_link m d; target = 0; name = k.name; size = length n; string = k.string; strings = q i; real = 0; reals = 0 } }) refl

        allowed : (q : Bool) (j : ℕ) → FollowsPart (at_string_count t n) (cond q (strings t n j) (fault 12)) (cond q (strings_to (before (at_string_count t n)) j) (to.Refused 12 p))
        allowed true j = many j
        allowed false j = refl

        go : (x : Option ℕ) → FollowsPart (at_string_count t n) (string_count t n x) (string_counted (before (at_string_count t n)) p x)
        go none = refl
        go (some j) = allowed (strings_allowed t j) j

    -- the draft among strings: its count of strings is what changes in form
    stringed : (t : ℕ) (n : Bytes) (q c : ℕ) → Draft
    stringed t n q c = record { kind = t; modifier = modifier_link m d; target = 0; name = k.name; size = length n; string = q; strings = c; real = 0; reals = 0 }

    step_first_string : (t : ℕ) (n : Bytes) (j : ℕ) → FollowsPart (at_string t n [] j) (turn r (at_string t n [] j) w) (string_step (before (at_string t n [] j)) (with_string (before (at_string t n [] j)).draft p))
    unfolding string_step stringed
    step_first_string t n zero = onto_part (at_string t n [] zero) (at_integer_count t n (w ∷ [])) _ refl refl
    step_first_string t n (suc j) = let q : 0 + suc (suc j) ≡ 1 + suc j = omega arith in onto_part (at_string t n [] (suc j)) (at_string t n (w ∷ []) j) _ (λ i. record { at = after; count = length d; used = reals_used d + 0; left = j; looked = count_open size (tally size d) m d; phase = is.LaterString; draft = stringed t n p (q i) }) refl

    step_string : (t : ℕ) (n x : Bytes) (ss : List Bytes) (j : ℕ) → FollowsPart (at_string t n (x ∷ ss) j) (turn r (at_string t n (x ∷ ss) j) w) (string_step (before (at_string t n (x ∷ ss) j)) (before (at_string t n (x ∷ ss) j)).draft)
    unfolding string_step stringed
    step_string t n x ss zero = let q : suc (length ss) + 1 ≡ suc (length (ss ++ w ∷ [])) = omega (arith, length-append ss (w ∷ [])) in onto_part (at_string t n (x ∷ ss) zero) (at_integer_count t n (x ∷ ss ++ w ∷ [])) _ (λ i. record { at = after; count = length d; used = reals_used d + 0; left = 0; looked = count_open size (tally size d) m d; phase = is.IntegerCount; draft = stringed t n k.string (q i) }) refl
    step_string t n x ss (suc j) = let q : suc (length ss) + suc (suc j) ≡ suc (length (ss ++ w ∷ [])) + suc j = omega (arith, length-append ss (w ∷ [])) in onto_part (at_string t n (x ∷ ss) (suc j)) (at_string t n (x ∷ ss ++ w ∷ []) j) _ (λ i. record { at = after; count = length d; used = reals_used d + 0; left = j; looked = count_open size (tally size d) m d; phase = is.LaterString; draft = stringed t n k.string (q i) }) refl

    step_integer_count : (t : ℕ) (n : Bytes) (ss : List Bytes) → FollowsPart (at_integer_count t n ss) (turn r (at_integer_count t n ss) w) (integer_count_step w (before (at_integer_count t n ss)) v)
    unfolding integer_count_step
    step_integer_count t n ss = go (count_of w)
      where
        go : (x : Option ℕ) → FollowsPart (at_integer_count t n ss) (integer_count t n ss x) (integer_counted (before (at_integer_count t n ss)) p x)
        go none = refl
        go (some zero) = onto_part (at_integer_count t n ss) (at_real_count t n ss) _ refl refl
        go (some (suc j)) = refl

    -- the record of a primitive, once its last word has been read
    complete : Part → (n : Bytes) → Body → Entry
    complete pt n b = record { statement = record { modifier = m; name = n; body = b }; places = note (busy m pt) p k; end = p + length w }

    step_real_count : (t : ℕ) (n : Bytes) (ss : List Bytes) → u ≡ reals_used d
        → Follows (busy m (at_real_count t n ss)) (taken r (busy m (at_real_count t n ss)) w) (test r d (busy m (at_real_count t n ss)) w) (real_count_step w r.reals (before (at_real_count t n ss)) v)
    unfolding real_count_step record_of statements complete
    step_real_count t n ss f = go (count_of w)
      where
        e : Entry
        e = complete (at_real_count t n ss) n (primitive t ss [])

        many : (j : ℕ) → FollowsPart (at_real_count t n ss) (reals t n ss [] j) (reals_to (before (at_real_count t n ss)) u j)
        many zero = record { places = note (busy m (at_real_count t n ss)) p k; entry = e; goes = refl; place = refl; count = refl; used = refl; looked = refl; own = (λ i. record { type = t; modifier = modifier_link m d; target = 0; name = k.name; name_length = length n; string = sym (string_here e es) i; strings = length ss; real = 0; reals = 0; next = sym (next_none e.statement d) i }); reals = refl }
        many (suc j) = let q : suc j ≡ 0 + suc j = omega arith in onto_part (at_real_count t n ss) (at_real t n ss [] j) _ (λ i. record { at = after; count = length d; used = reals_used d + 0; left = j; looked = count_open size (tally size d) m d; phase = is.Real; draft = record { kind = t; modifier = modifier_link m d; target = 0; name = k.name; size = length n; string = k.string; strings = length ss; real = f i; reals = q i } }) refl

        fits : (b : Bool) (j : ℕ) → Follows (busy m (at_real_count t n ss)) (outcome m (reals t n ss [] j)) (cond b 0 13) (cond b (reals_to (before (at_real_count t n ss)) u j) (to.Refused 13 p))
        fits true j = many j
        fits false zero = refl
        fits false (suc j) = refl

        allowed : (x : Bool) (j : ℕ) → Follows (busy m (at_real_count t n ss)) (outcome m (cond x (reals t n ss [] j) (fault 12))) (cond (leb (reals_used d + j) r.reals) 0 13) (cond x (cond (leb (reals_used d + 0 + j) r.reals) (reals_to (before (at_real_count t n ss)) u j) (to.Refused 13 p)) (to.Refused 12 p))
        allowed true j = let q : reals_used d + j ≡ reals_used d + 0 + j = omega arith in subst (λ (x : ℕ). Follows (busy m (at_real_count t n ss)) (outcome m (reals t n ss [] j)) (cond (leb (reals_used d + j) r.reals) 0 13) (cond (leb x r.reals) (reals_to (before (at_real_count t n ss)) u j) (to.Refused 13 p))) q (fits (leb (reals_used d + j) r.reals) j)
        allowed false j = refl

        go : (x : Option ℕ) → Follows (busy m (at_real_count t n ss)) (outcome m (real_count t n ss x)) (room_test r.reals (reals_used d) x) (real_counted r.reals (before (at_real_count t n ss)) v x)
        go none = refl
        go (some j) = allowed (reals_allowed t j) j

    step_real : (t : ℕ) (n : Bytes) (ss : List Bytes) (rs : List Literal) (j : ℕ) → reals_used d + length (numbers rs) < r.reals → ((x : Float) → breach_at house_rules t (length rs + suc j - j) x y z ≡ breach t (numbers rs ++ x ∷ []))
        → FollowsPart (at_real t n ss rs j) (turn r (at_real t n ss rs j) w) (real_step w r.reals (before (at_real t n ss rs j)) v)
    unfolding real_step record_of statements complete
    step_real t n ss rs j l f = go (numeral_of w)
      where
        more : Float → List Literal
        more x = rs ++ literal w x ∷ []

        used : (x : Float) → reals_used d + length (numbers rs) + 1 ≡ reals_used d + length (numbers (rs ++ literal w x ∷ []))
        used x = omega (arith, ap length (numbers_snoc rs w x), length-append (numbers rs) (x ∷ []))

        left : (q : Bool) (x : Float) (i : ℕ) → FollowsPart (at_real t n ss rs i) (cond q (fault 16) (reals t n ss (rs ++ literal w x ∷ []) i)) (cond q (to.Refused 16 p) (real_left (before (at_real t n ss rs i)) x i))
        left true x i = refl
        left false x zero =
            let e : Entry = complete (at_real t n ss rs zero) n (primitive t ss (rs ++ literal w x ∷ [])) in
            let c : length rs + 1 ≡ length (numbers (rs ++ literal w x ∷ [])) = omega (arith, ap length (numbers_snoc rs w x), length-append (numbers rs) (x ∷ []), numbers_length rs) in
            let h : reals_used d ≡ unless_none (numbers (rs ++ literal w x ∷ [])) (reals_used d) = sym (ap (λ (l : List Float). unless_none l (reals_used d)) (numbers_snoc rs w x) ∙ none_snoc (numbers rs) x (reals_used d)) in
            record {
              places = note (busy m (at_real t n ss rs zero)) p k;
              entry = e;
              goes = refl;
              place = refl;
              count = refl;
              used = used x;
              looked = refl;
              own = (λ i. record { type = t; modifier = modifier_link m d; target = 0; name = k.name; name_length = length n; string = sym (string_here e es) i; strings = length ss; real = h i; reals = c i; next = sym (next_none e.statement d) i });
              reals = numbers_snoc rs w x;
            }
        left false x (suc i) =
            let c : length rs + suc (suc i) ≡ length (rs ++ literal w x ∷ []) + suc i = omega (arith, length-append rs (literal w x ∷ [])) in
            record { phase = busy m (at_real t n ss (rs ++ literal w x ∷ []) i); places = note (busy m (at_real t n ss rs (suc i))) p k; goes = refl; is = (λ h. record { at = after; count = length d; used = used x h; left = i; looked = count_open size (tally size d) m d; phase = is.Real; draft = record { kind = t; modifier = modifier_link m d; target = 0; name = k.name; size = length n; string = k.string; strings = length ss; real = reals_used d; reals = c h } }); reals = numbers_snoc rs w x }

        -- there is room
        room : (q : Bool) (x : Float) → FollowsPart (at_real t n ss rs j) (cond q (fault 16) (reals t n ss (rs ++ literal w x ∷ []) j)) (cond q (to.Refused 16 p) (cond (ltb (reals_used d + length (numbers rs)) r.reals) (real_left (before (at_real t n ss rs j)) x j) (to.Refused 13 p)))
        room q x = subst (λ (b : Bool). FollowsPart (at_real t n ss rs j) (cond q (fault 16) (reals t n ss (rs ++ literal w x ∷ []) j)) (cond q (to.Refused 16 p) (cond b (real_left (before (at_real t n ss rs j)) x j) (to.Refused 13 p)))) (sym (lt-ltb (reals_used d + length (numbers rs)) r.reals l)) (left q x j)

        go : (x : Numeral) → FollowsPart (at_real t n ss rs j) (real t n ss rs j w x) (real_read r.reals (before (at_real t n ss rs j)) v x)
        go (refusal n) = refl
        go (value x) = subst (λ (q : Bool). FollowsPart (at_real t n ss rs j) (cond (breach t (numbers (rs ++ literal w x ∷ []))) (fault 16) (reals t n ss (rs ++ literal w x ∷ []) j)) (cond q (to.Refused 16 p) (cond (ltb (reals_used d + length (numbers rs)) r.reals) (real_left (before (at_real t n ss rs j)) x j) (to.Refused 13 p))))
            (ap (breach t) (numbers_snoc rs w x) ∙ sym (f x)) (room (breach t (numbers (rs ++ literal w x ∷ []))) x)

    -- the state behind an alias target, its look-up counted
    abbrev aimed : Bytes → State
    aimed n = record { at = after; count = length d; used = reals_used d + 0; left = 0; looked = count_whole size (count_open size (tally size d) m d) (alias w) d; phase = is.Target; draft = (before (at_target n)).draft }

    step_target : (n : Bytes) → latest w d ≡ number → FoundAs es w o number
        → Follows (busy m (at_target n)) (taken r (busy m (at_target n)) w) (test r d (busy m (at_target n)) w) (target_step (aimed n) v)
    unfolding target_step record_of statements complete
    step_target n l f = go number l f
      where
        e : Entry
        e = complete (at_target n) n (alias w)

        s : State
        s = record { at = after; count = length d; used = reals_used d + 0; left = 0; looked = (aimed n).looked; phase = is.Target; draft = with_target (before (at_target n)).draft v }

        string : string_place (e ∷ es) (length (resolve w d)) ≡ string_place es (length (resolve w d))
        string = string_below e es (length (resolve w d)) (tail_length (resolve w d) d (resolve_tail w d))

        whole : o ≡ source_draft es (resolve w d) → Follows (busy m (at_target n)) (done e.statement) 0 (to.Complete s)
        whole h = record {
          places = note (busy m (at_target n)) p k;
          entry = e;
          goes = refl;
          place = refl;
          count = refl;
          used = refl;
          looked = refl;
          own = (λ i. record { type = (h i).kind; modifier = modifier_link m d; target = sym l i; name = k.name; name_length = length n; string = (h i).string; strings = (h i).strings; real = (h i).real; reals = (h i).reals; next = 0 }) ∙ (λ i. record { type = type_in (body_of (resolve w d)); modifier = modifier_link m d; target = latest w d; name = k.name; name_length = length n; string = sym string i; strings = length (strings_in (body_of (resolve w d))); real = first_real (resolve w d); reals = length (reals_in (body_of (resolve w d))); next = sym (next_none e.statement d) i });
          reals = refl;
        }

        go : (x : ℕ) → latest w d ≡ x → FoundAs es w o x → Follows (busy m (at_target n)) (done e.statement) (target_test (definition w d)) (target_at (aimed n) v x)
        go zero q g = ap (λ (K : Option Statement). settle (at_end p w (busy m (at_target n)) k es) (done e.statement) (target_test K)) g
        go (suc x) q g = subst (λ (t : ℕ). Follows (busy m (at_target n)) (done e.statement) t (to.Complete s)) (sym g.1) (whole g.2)

  -- what a step has to see of the tables
  abbrev pub Sees : Phase → Type 0
  Sees idle = same w void ≡ false → Found
  Sees (busy m (at_target n)) = Found
  Sees (busy m (at_real_count t n ss)) = u ≡ reals_used d
  Sees (busy m (at_real t n ss rs j)) = (reals_used d + length (numbers rs) < r.reals) × ((x : Float) → breach_at house_rules t (length rs + suc j - j) x y z ≡ breach t (numbers rs ++ x ∷ []))
  Sees (busy m at_type) = Unit {0}
  Sees (busy m (at_name t)) = Unit {0}
  Sees (busy m (at_string_count t n)) = Unit {0}
  Sees (busy m (at_string t n ss j)) = Unit {0}
  Sees (busy m (at_integer_count t n ss)) = Unit {0}
  Sees (busy m at_alias_name) = Unit {0}

  -- the state that a step is taken from: behind the word, with its look-up counted
  abbrev pub taking : Phase → State
  taking idle = opening
  taking (busy m (at_target n)) = aimed m n
  taking (busy m (at_real_count t n ss)) = before m (at_real_count t n ss)
  taking (busy m (at_real t n ss rs j)) = before m (at_real t n ss rs j)
  taking (busy m at_type) = before m at_type
  taking (busy m (at_name t)) = before m (at_name t)
  taking (busy m (at_string_count t n)) = before m (at_string_count t n)
  taking (busy m (at_string t n ss j)) = before m (at_string t n ss j)
  taking (busy m (at_integer_count t n ss)) = before m (at_integer_count t n ss)
  taking (busy m at_alias_name) = before m at_alias_name

  step_taken : (ph : Phase) → Sees ph → Follows ph (taken r ph w) (test r d ph w) (step_of (taking ph).phase w r (taking ph) v)
  step_taken idle h = step_modifier h
  step_taken (busy m at_type) h = step_kind m
  step_taken (busy m (at_name t)) h = step_name m t
  step_taken (busy m (at_string_count t n)) h = step_string_count m t n
  step_taken (busy m (at_string t n [] j)) h = step_first_string m t n j
  step_taken (busy m (at_string t n (x ∷ ss) j)) h = step_string m t n x ss j
  step_taken (busy m (at_integer_count t n ss)) h = step_integer_count m t n ss
  step_taken (busy m (at_real_count t n ss)) h = step_real_count m t n ss h
  step_taken (busy m (at_real t n ss rs j)) h = step_real m t n ss rs j h.0 h.1
  step_taken (busy m at_alias_name) h = step_alias_name m
  step_taken (busy m (at_target n)) h = step_target m n h.0 h.1

  pub follows : (ph : Phase) → Sees ph → word_fault w ≡ 0
      → Goes size after es ph (word_ended r p w ph k es) (step_of (taking ph).phase w r (taking ph) v)
  follows ph h g = subst (λ (a : Outcome). Follows ph a (test r d ph w) (step_of (taking ph).phase w r (taking ph) v)) (λ i. unless_fault (sym g i) (taken r ph w)) (step_taken ph h)
