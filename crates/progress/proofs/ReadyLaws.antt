-- What the code may rely on between two words and at a word, and what its step comes to.
use mathlib.Core.Bool.{Bool, true, false, not, cond}
use mathlib.Core.List.{List, [], ◌∷◌, ◌++◌}
use mathlib.Core.Path.{◌≡◌, refl, ap, sym, ◌∙◌, subst}
use Prim.Native.Nat.{ℕ, suc, ◌+◌, ◌-◌, ◌*◌, ◌/◌, ◌≤◌, ◌<◌, min}
use native.Mathlib.Nat.{add-zero}
use native.Mathlib.Omega.{arith}
use borrow.Author.Tests.{lt-leb}
use lib.Ieee.{Float}
use lib.ListN.{length, length-append, set, replicate}
use lib.Seq.{set_at, append_snoc}
use Rattle.progress.proofs.MoveLaws.{moved_image}
use Rattle.progress.proofs.StepLaws.{Sees, follows, taking}
use Rattle.progress.proofs.WordLaws.{done, comes, word_fits, word_length, reached, all_there}
use Rattle.progress.specs.Goes.{Goes, Done, word_ended, On, Stepped}
use Rattle.progress.specs.Image.{drafted, image, left_of, open_reals, part_reals, phase_of}
use Rattle.progress.specs.Invariant.{AtWord, Entered, Inv}
use Rattle.laws.specs.Bytes.{Bytes, part, same}
use Rattle.lexer.specs.Word.{word_fault}
use Rattle.context.proofs.SeenLaws.{FoundAs, breach_is, found_as}
use Rattle.context.specs.Seen.{draft_in, is_looked_up, looked_for, real_before, seen_by, seen_in}
use Rattle.index.proofs.TableLaws.{finds_looked, finds_number}
use Rattle.index.specs.Lent.{count_open, lent, looked_by, tally}
use Rattle.index.specs.Searches.{sought}
use Rattle.index.specs.declared.Found.{Found}
use Rattle.laws.proofs.BoolLaws.{cond_elim}
use Rattle.linker.proofs.EnteredLaws.{counts, enters, indexes}
use Rattle.linker.specs.Entered.{behind_in, earlier_in}
use Rattle.parser.specs.Steps.{step_of}
use Rattle.scene.proofs.AcceptLaws.{going_sound}
use Rattle.scene.proofs.PlaceLaws.{all_on, AllRead, all_read}
use Rattle.scene.proofs.RiseLaws.{names_rise}
use Rattle.scene.proofs.RoomLaws.{fit_forth, room_inv}
use Rattle.scene.proofs.SwapLaws.{Linked, latest_le}
use Rattle.scene.proofs.SyntaxLaws.{AtPhase, Sound}
use Rattle.scene.proofs.TellsLaws.{reals_length, numbers_length, reals_count}
use Rattle.scene.specs.HouseRules.{zero_real}
use Rattle.scene.specs.Links.{gives, latest, modifier_link, reals_in, reals_used}
use Rattle.scene.specs.Phase.{Part, at_type, at_real_count, Phase, at_string_count, at_string, at_name, idle, at_target, at_real, at_integer_count, at_alias_name, busy}
use Rattle.scene.specs.Reading.{run, gap, Entry, initial, Going, statements, going, newline}
use Rattle.scene.specs.Record.{real_table, width, filled, records, flat}
use Rattle.scene.specs.Statement.{Statement, numbers, void}
use Rattle.scene.specs.declared.Settings.{Settings}
use Rattle.statement.specs.States.{between, clipped, counted_in, moved_to}
use Rattle.statement.specs.declared.Phase.{Phase as CodePhase}
use Rattle.statement.specs.declared.Seen.{Seen}
use Rattle.statement.specs.declared.State.{State}
use Rattle.statement.specs.declared.Phase.TheVariants as is

-- ---- from the definition's state

sound_at : (r : Settings) (d : List Statement) (ph : Phase) → AtPhase r d ph → Sound r d
sound_at r d idle h = h
sound_at r d (busy m p) h = h.0

-- the reals of the open statement have room
room_at : (r : Settings) (d : List Statement) (ph : Phase) → AtPhase r d ph → reals_used d + length (open_reals ph) ≤ r.reals
room_at r d ph h = go ph h (fit_forth r d (sound_at r d ph h)).2
  where
    go : (ph : Phase) → AtPhase r d ph → reals_used d ≤ r.reals → reals_used d + length (open_reals ph) ≤ r.reals
    go idle h u = omega arith
    go (busy m at_type) h u = omega arith
    go (busy m (at_name t)) h u = omega arith
    go (busy m (at_string_count t n)) h u = omega arith
    go (busy m (at_string t n ss k)) h u = omega arith
    go (busy m (at_integer_count t n ss)) h u = omega arith
    go (busy m (at_real_count t n ss)) h u = omega arith
    go (busy m (at_real t n ss rs k)) h u = omega (arith, room_inv (reals_used d + (length rs + suc k)) r.reals h.2, numbers_length rs)
    go (busy m at_alias_name) h u = omega arith
    go (busy m (at_target n)) h u = omega arith

-- a table of reals, one more real
pub more_real : (l D : List Float) (x : Float) (n u : ℕ) → D ≡ filled zero_real n l → u ≡ length l → u < n → set D u x ≡ filled zero_real n (l ++ x ∷ [])
more_real l D x n u d q h =
    let e : n - length l ≡ suc (n - length (l ++ x ∷ [])) = omega (arith, length-append l (x ∷ [])) in
    (λ i. set (d i) u x) ∙ ap {B = List Float} (λ (k : ℕ). set (l ++ replicate k zero_real) u x) e ∙ set_at l zero_real (replicate (n - length (l ++ x ∷ [])) zero_real) x u (sym q) ∙ sym (append_snoc l x (replicate (n - length (l ++ x ∷ [])) zero_real))

-- ---- between two words

module _ (text : Bytes) (table : List ℕ) (reals : List Float) (index : List ℕ) (room : Settings) (s : State) (I : Inv text table reals index room s) where
  abbrev here : Going
  here = record { at = length I.done; scan = gap; phase = I.phase; places = I.places; above = I.above }

  at_phase : AtPhase room (statements I.above) I.phase
  at_phase = going_sound room I.done here I.reach

  fit : Linked (statements I.above) × (length (statements I.above) ≤ room.records) × (reals_used (statements I.above) ≤ room.reals)
  fit = fit_forth room (statements I.above) (sound_at room (statements I.above) I.phase at_phase)

  records_room : room.records ≡ min 1024 (length table / width)
  records_room = ap (λ (z : Settings). z.records) I.settings

  reals_room : room.reals ≡ min 4096 (length reals)
  reals_room = ap (λ (z : Settings). z.reals) I.settings

  all_stands : AllRead (text ++ newline) I.above
  all_stands = subst (λ (z : Bytes). AllRead z I.above) (sym I.whole) (all_on I.rest I.done I.above (all_read room I.done here I.reach))

  pub count_few : length (statements I.above) ≤ 1024
  count_few = omega (arith, fit.1, records_room)

  -- as many rows as the table has
  in_rows : min (length (statements I.above)) (length table / width) ≡ length (statements I.above)
  in_rows = omega (arith, fit.1, records_room)

  pub count_is : s.count ≡ length (statements I.above)
  count_is = ap (λ (z : State). z.count) I.is ∙ go I.phase
    where
      go : (ph : Phase) → (image (length index) (length I.done) (statements I.above) ph I.places).count ≡ length (statements I.above)
      go idle = refl
      go (busy m p) = refl

  used_is : s.used ≡ reals_used (statements I.above) + length (open_reals I.phase)
  used_is = ap (λ (z : State). z.used) I.is ∙ go I.phase
    where
      go : (ph : Phase) → (image (length index) (length I.done) (statements I.above) ph I.places).used ≡ reals_used (statements I.above) + length (open_reals ph)
      go idle = sym (add-zero (reals_used (statements I.above)))
      go (busy m p) = refl

  pub used_list : s.used ≡ length (real_table I.above ++ open_reals I.phase)
  used_list = used_is ∙ ap (λ (n : ℕ). n + length (open_reals I.phase)) (sym (reals_length (statements I.above))) ∙ sym (length-append (real_table I.above) (open_reals I.phase))

  used_room : (s.used ≤ length reals) × (s.used ≤ 4096)
  used_room = (omega (arith, used_is, room_at room (statements I.above) I.phase at_phase, reals_room), omega (arith, used_is, room_at room (statements I.above) I.phase at_phase, reals_room))

-- ---- at a word

module _ (text : Bytes) (table : List ℕ) (reals : List Float) (index : List ℕ) (room : Settings) (s : State) (len : ℕ) (W : AtWord text table reals index room s len) where
  abbrev I : Inv text table reals index room s
  I = W.inv

  abbrev es : List Entry
  es = I.above

  abbrev d : List Statement
  d = statements I.above

  abbrev w : Bytes
  w = part text s.at len

  -- the search for the word
  abbrev X : Found
  X = sought text table index (length d) w

  finds_here : X.number ≡ latest w d
  finds_here = finds_number text table index es I.stored (all_stands text table reals index room s I) (omega (arith, count_few text table reals index room s I)) I.held (length d) (in_rows text table reals index room s I) w

  looks_here : X.looked ≡ looked_by (length index) w d
  looks_here = finds_looked text table index es I.stored (all_stands text table reals index room s I) (omega (arith, count_few text table reals index room s I)) I.held (length d) (in_rows text table reals index room s I) w

  known : (x : ℕ) → x ≡ X.number → (latest w d ≡ x) × FoundAs es w (draft_in table x) x
  known x g = let e = g ∙ finds_here in (sym e, found_as text table es I.stored w x e)

  -- the state behind the word, in a phase
  abbrev behind : Phase → State
  behind ph = image (length index) (suc (s.at + length w)) d ph I.places

  -- the reals stored then
  abbrev stored : Phase → ℕ
  stored ph = reals_used d + length (open_reals ph)

  -- as the code's values stand when the phase is ph
  sees : (ph : Phase) → ph ≡ I.phase → (f j : ℕ) → f ≡ looked_for (behind ph).phase w X.number
      → Sees (length index) room es I.places s.at w (stored ph) f j (draft_in table f) (real_before (behind ph).phase reals (stored ph) 1) (real_before (behind ph).phase reals (stored ph) 2) ph
  unfolding is_looked_up real_before
  sees idle q f j g = λ h. known f (g ∙ ap (λ (b : Bool). cond (not b) X.number 0) h)
  sees (busy m at_type) q f j g = tt
  sees (busy m (at_name t)) q f j g = tt
  sees (busy m (at_string_count t n)) q f j g = tt
  sees (busy m (at_string t n ss i)) q f j g = tt
  sees (busy m (at_integer_count t n ss)) q f j g = tt
  sees (busy m (at_real_count t n ss)) q f j g = add-zero (reals_used d)
  sees (busy m (at_real t n ss rs i)) q f j g = (
    room_left,
    λ x.
        let l : length rs + suc i - i ≡ suc (length (numbers rs)) = omega (arith, numbers_length rs) in
        breach_is reals (real_table es) (numbers rs) (I.doubles ∙ ap (λ (z : Phase). filled zero_real (length reals) (real_table es ++ open_reals z)) (sym q)) (reals_used d + length (numbers rs)) (ap (λ (n : ℕ). n + length (numbers rs)) (sym (reals_length d))) t x (length rs + suc i - i) l,
  )
    where
      room_left : reals_used d + length (numbers rs) < room.reals
      room_left = let h = subst (AtPhase room d) (sym q) (at_phase text table reals index room s I) in omega (arith, room_inv (reals_used d + (length rs + suc i)) room.reals h.2, numbers_length rs)
  sees (busy m at_alias_name) q f j g = tt
  sees (busy m (at_target n)) q f j g = known f g

  -- what is seen of a word, u reals stored, f looked up and j entries looked at, before its numbers are clipped
  abbrev plain : CodePhase → (u f j : ℕ) → Seen
  plain c u f j = record { place = s.at; name = s.at; size = length w; used = u; found = f; looked = j; source = draft_in table f; previous = real_before c reals u 1; first = real_before c reals u 2 }

  small : (n : ℕ) → n ≤ 65536 → n ≡ clipped n
  small n h = omega arith

  plain_seen : (c : CodePhase) (u f j : ℕ) → u ≤ 4096 → f ≤ 1024 → plain c u f j ≡ seen_by table reals c s.at (length w) u f j
  plain_seen c u f j hu hf =
      let e = word_fits text table reals index room s len W in
      let short = I.short in
      let l = word_length text table reals index room s len W in
      λ i. record { place = s.at; name = small s.at (omega arith) i; size = small (length w) (omega arith) i; used = small u (omega arith) i; found = small f (omega arith) i; looked = j; source = draft_in table f; previous = real_before c reals u 1; first = real_before c reals u 2 }

  -- the state that the step is taken from
  abbrev from : (f j : ℕ) → Phase → State
  from f j ph = taking (length index) room es I.places s.at w (stored ph) f j (draft_in table f) (real_before (behind ph).phase reals (stored ph) 1) (real_before (behind ph).phase reals (stored ph) 2) ph

  -- what the step from t says of it
  abbrev Steps : Phase → State → Seen → Type 0
  Steps ph t v = Goes (length index) (suc (s.at + length w)) es ph (word_ended room s.at w ph I.places es) (step_of t.phase w room t v)

  steps : word_fault w ≡ 0 → (ph : Phase) → ph ≡ I.phase → (u : ℕ) → u ≡ stored ph → (f j : ℕ) → f ≡ looked_for (behind ph).phase w X.number → Steps ph (from f j ph) (seen_by table reals (behind ph).phase s.at (length w) u f j)
  steps fine ph q u v f j g =
      subst (Steps ph (from f j ph)) (plain_seen (behind ph).phase u f j (omega (arith, v, ap (λ (z : Phase). length (open_reals z)) q, used_is text table reals index room s I, (used_room text table reals index room s I).1)) few)
      (subst (λ (u : ℕ). Steps ph (from f j ph) (plain (behind ph).phase u f j)) (sym v)
      (follows (length index) room es I.places s.at w (stored ph) f j (draft_in table f) (real_before (behind ph).phase reals (stored ph) 1) (real_before (behind ph).phase reals (stored ph) 2) ph (sees ph q f j g) fine))
    where
      few : f ≤ 1024
      few = omega (arith, g, cond_elim (λ n. n ≤ 1024) (is_looked_up (behind ph).phase w) {x = X.number} {y = 0} (omega (arith, finds_here, latest_le w d, count_few text table reals index room s I)) (omega arith))

  -- only a modifier's and an alias target's look-up changes the count
  stays : (m : Bytes) (p : Part) → is_looked_up (phase_of p) w ≡ false → counted_in (behind (busy m p)) (looked_for (phase_of p) w X.looked) ≡ behind (busy m p)
  stays m p e = λ i. record { at = suc (s.at + length w); count = length d; used = reals_used d + length (part_reals p); left = left_of p; looked = (ap (λ (b : Bool). clipped (count_open (length index) (tally (length index) d) m d + cond b X.looked 0)) e ∙ again (tally (length index) d + cond (same m void) 0 (looked_by (length index) m d))) i; phase = phase_of p; draft = drafted (modifier_link m d) I.places.name I.places.string (reals_used d) p }
    where
      again : (n : ℕ) → clipped (clipped n + 0) ≡ clipped n
      again n = omega arith

  counts_as : (f j : ℕ) (ph : Phase) → counted_in (behind ph) (looked_for (behind ph).phase w X.looked) ≡ from f j ph
  unfolding is_looked_up
  counts_as f j idle = λ i. between (suc (s.at + length w)) (length d) (reals_used d) (clipped (tally (length index) d + (turned (same w void) ∙ ap (cond (same w void) 0) looks_here) i))
    where
      turned : (b : Bool) → cond (not b) X.looked 0 ≡ cond b 0 X.looked
      turned true = refl
      turned false = refl
  counts_as f j (busy m at_type) = stays m at_type refl
  counts_as f j (busy m (at_name t)) = stays m (at_name t) refl
  counts_as f j (busy m (at_string_count t n)) = stays m (at_string_count t n) refl
  counts_as f j (busy m (at_string t n [] i)) = stays m (at_string t n [] i) refl
  counts_as f j (busy m (at_string t n (x ∷ ss) i)) = stays m (at_string t n (x ∷ ss) i) refl
  counts_as f j (busy m (at_integer_count t n ss)) = stays m (at_integer_count t n ss) refl
  counts_as f j (busy m (at_real_count t n ss)) = stays m (at_real_count t n ss) refl
  counts_as f j (busy m (at_real t n ss rs i)) = stays m (at_real t n ss rs i) refl
  counts_as f j (busy m at_alias_name) = stays m at_alias_name refl
  counts_as f j (busy m (at_target n)) = λ i. record { at = suc (s.at + length w); count = length d; used = reals_used d + 0; left = 0; looked = clipped (count_open (length index) (tally (length index) d) m d + looks_here i); phase = is.Target; draft = drafted (modifier_link m d) I.places.name I.places.string (reals_used d) (at_target n) }

  -- what the look-up in a phase comes to: a number, and entries looked at
  abbrev found : Phase → ℕ
  found ph = looked_for (behind ph).phase w X.number

  abbrev seen : Phase → ℕ
  seen ph = looked_for (behind ph).phase w X.looked

  -- the step that the code takes from t
  abbrev Taken : Phase → State → Type 0
  Taken ph t = Steps ph (counted_in t (seen_in text table reals index t s.at w).looked) (seen_in text table reals index t s.at w)

  taken_here : word_fault w ≡ 0 → (ph : Phase) → ph ≡ I.phase → Taken ph (behind ph)
  taken_here fine idle q = subst (λ (t : State). Steps idle t (seen_in text table reals index (behind idle) s.at w)) (sym (counts_as (found idle) (seen idle) idle)) (steps fine idle q (reals_used d) (sym (add-zero (reals_used d))) (found idle) (seen idle) refl)
  taken_here fine (busy m p) q = subst (λ (t : State). Steps (busy m p) t (seen_in text table reals index (behind (busy m p)) s.at w)) (sym (counts_as (found (busy m p)) (seen (busy m p)) (busy m p))) (steps fine (busy m p) q (reals_used d + length (part_reals p)) refl (found (busy m p)) (seen (busy m p)) refl)

  pub steps_as : word_fault w ≡ 0 → Stepped text table reals index room s len (step_of s.phase w room (counted_in (moved_to s (s.at + len + 1)) (seen_in text table reals index (moved_to s (s.at + len + 1)) s.at w).looked) (seen_in text table reals index (moved_to s (s.at + len + 1)) s.at w))
  steps_as fine =
      let e = word_length text table reals index room s len W in
      let t : moved_to s (s.at + len + 1) ≡ behind I.phase = (let n : s.at + len + 1 ≡ suc (s.at + length w) = omega arith in ap (moved_to s) n) ∙ moved_image text table reals index room s I (suc (s.at + length w)) in
      record {
        stands = W;
        goes = subst (λ (n : ℕ). Goes (length index) (suc (s.at + n)) es I.phase (word_ended room s.at w I.phase I.places es) (step_of s.phase w room (counted_in (moved_to s (s.at + len + 1)) (seen_in text table reals index (moved_to s (s.at + len + 1)) s.at w).looked) (seen_in text table reals index (moved_to s (s.at + len + 1)) s.at w))) e (subst (Taken I.phase) (sym t) (taken_here fine I.phase refl));
      }

  -- a real is stored
  pub stores : (s' : State) (x : Float) → On (length index) (suc (s.at + len)) es I.phase (reached text table reals index room s len W) s' (x ∷ []) → s.used < length reals
  stores s' x N = omega (arith, used_is text table reals index room s I, room_at room d N.phase later, reals_room text table reals index room s I, ap length N.reals, length-append (open_reals I.phase) (x ∷ []))
    where
      later : AtPhase room d N.phase
      later = going_sound room (done text table reals index room s len W) (record { at = suc (s.at + len); scan = gap; phase = N.phase; places = N.places; above = es }) (comes text table reals index room s len W ∙ N.goes)

  -- a statement is complete
  module _ (s' : State) (xs : List Float) (N : Done (length index) (suc (s.at + len)) es I.phase (reached text table reals index room s len W) s' xs) where
    abbrev g : Going
    g = record { at = suc (s.at + len); scan = gap; phase = idle; places = N.places; above = N.entry ∷ es }

    came : run room initial (done text table reals index room s len W) ≡ going g
    came = comes text table reals index room s len W ∙ N.goes

    later : Linked (statements (N.entry ∷ es)) × (length (statements (N.entry ∷ es)) ≤ room.records) × (reals_used (statements (N.entry ∷ es)) ≤ room.reals)
    later = fit_forth room (statements (N.entry ∷ es)) (going_sound room (done text table reals index room s len W) g came)

    all_later : AllRead (text ++ newline) (N.entry ∷ es)
    all_later = all_there text table reals index room s len W (N.entry ∷ es) (all_read room (done text table reals index room s len W) g came)

    pub stores_last : reals_used d + length (reals_in N.entry.statement.body) ≤ length reals
    unfolding statements reals_used
    stores_last = omega (arith, later.2, reals_room text table reals index room s I, reals_count N.entry.statement.body)

    count_room : (length d * width + width ≤ length table) × (length d ≤ 1023)
    unfolding statements
    count_room = let f = later.1 in (omega (arith, records_room text table reals index room s I), omega (arith, records_room text table reals index room s I))

    abbrev own : Statement
    own = N.entry.statement

    -- its record, its number in the index and the entries looked at are those of one statement more
    pub entered : (T X' : List ℕ) (t' : State) → Entered text table index s' T X' t'
        → (T ≡ filled 0 (length table) (flat text (records (N.entry ∷ es)))) × (X' ≡ lent (length index) (statements (N.entry ∷ es))) × (t' ≡ between s'.at (s'.count + 1) s'.used (tally (length index) (statements (N.entry ∷ es))))
    unfolding behind_in statements tally
    entered T X' t' E =
        let few : s'.count ≤ 1024 = omega (arith, N.count, count_room.1) in
        let fits : s'.count * width + width ≤ length table = omega (arith, N.count, count_room.0) in
        let rows = length table / width in
        let k : (earlier_in text table index s'.count s'.draft).looked ≡ cond (gives own) (looked_by (length index) own.name d) 0 = counts text table index N.entry es s'.draft I.stored I.held all_later N.own s'.count N.count few fits in (
          E.stored ∙ enters text table index N.entry es s'.draft I.stored I.held all_later N.own s'.count N.count few fits (names_rise room (done text table reals index room s len W) g came).0 I.short,
          E.held ∙ indexes text table index N.entry es s'.draft I.stored I.held all_later N.own s'.count N.count few fits,
          E.state
              ∙ ap (λ (b : Bool). cond b (between s'.at s'.count s'.used s'.looked) (between s'.at (s'.count + 1) s'.used (clipped (s'.looked + (earlier_in text table index s'.count s'.draft).looked)))) (lt-leb rows s'.count (omega arith))
              ∙ (λ i. between s'.at (s'.count + 1) s'.used (clipped (N.looked i + k i))),
        )
