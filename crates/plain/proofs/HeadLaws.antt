-- The parts of a plain statement up to its reals: where its words lead, one law for each function.
use mathlib.Core.Bool.{Bool, true, false, cond, ◌||◌}
use mathlib.Core.List.{List, [], ◌∷◌}
use mathlib.Core.Option.{some}
use mathlib.Core.Path.{◌≡◌, refl, ap, sym, ◌∙◌, subst}
use Prim.Native.Nat.{ℕ, zero, suc, ◌+◌, ◌≤◌, ◌<◌}
use native.Mathlib.Omega.{arith}
use borrow.Author.Tests.{ne_eqb}
use lib.Dec.{eqb}
use lib.Ieee.{Float}
use lib.ListN.{get_or, length}
use Rattle.context.specs.Seen.{draft_in, is_looked_up}
use Rattle.index.specs.Lent.{tally}
use Rattle.index.specs.Searches.{sought}
use Rattle.index.specs.declared.Found.{Found}
use Rattle.laws.proofs.BoolLaws.{or_false_left, or_false_right}
use Rattle.laws.specs.Bytes.{Bytes, bytes, part, same}
use Rattle.lexer.specs.Word.{word_at, word_bytes}
use Rattle.plain.proofs.StepLaws.{alias_name_step, alias_step, integers_step, kind_step_lem, modifier_step_lem, name_step_lem, named_draft, reals_step, strings_step, target_step_lem, with_reals_lem}
use Rattle.plain.specs.Plain.{Begins, Counting, Leads, Left, Links, Names, Opens, alias_at, idle_at, primitive_at, state_at}
use Rattle.plain.specs.declared.Between.{Between}
use Rattle.plain.specs.declared.Head.{Head}
use Rattle.plain.specs.declared.Link.{Link}
use Rattle.plain.specs.declared.Opened.{Opened}
use Rattle.progress.specs.Image.{image}
use Rattle.progress.specs.Invariant.{Inv}
use Rattle.scene.specs.Phase.{Phase as ScenePhase, idle, busy}
use Rattle.scene.specs.Reading.{Places, statements}
use Rattle.scene.specs.Record.{line_at}
use Rattle.scene.specs.Statement.{Statement, void}
use Rattle.scene.specs.Types.{is_retired, reals_allowed, strings_allowed, type_number}
use Rattle.scene.specs.declared.Settings.{Settings}
use Rattle.statement.specs.Heads.{going_to, link_to, with_kind}
use Rattle.statement.specs.States.{clipped, is_idle, opened, opening_of}
use Rattle.statement.specs.declared.Draft.{Draft}
use Rattle.statement.specs.declared.State.{State}
use Rattle.statement.specs.declared.Opening.TheVariants as opening
use Rattle.statement.specs.declared.Phase.TheVariants as is
use Rattle.word_scan.proofs.PassLaws.{line_most, passed_on}
use Rattle.word_scan.specs.Passing.{Passes, PassesCount, PassesWord}
use Rattle.word_scan.specs.declared.Passed.{Passed}
use Rattle.word_scan.specs.declared.Valued.{Valued}

-- the count of entries looked at has room in 32 bits
image_small : (size n : ℕ) (d : List Statement) (ph : ScenePhase) (k : Places) → (image size n d ph k).looked ≤ 4294967295
unfolding tally
image_small size n [] idle k = omega arith
image_small size n (s ∷ d) idle k = omega arith
image_small size n d (busy m p) k = omega arith

pub looked_small : (text : Bytes) (T : List ℕ) (R : List Float) (X : List ℕ) (room : Settings) (s : State) → Inv text T R X room s → s.looked ≤ 4294967295
looked_small text T R X room s I = subst (λ (z : State). z.looked ≤ 4294967295) (sym I.is) (image_small (length X) (length I.done) (statements I.above) I.phase I.places)

-- ---- the link

module _ (text : Bytes) (T X : List ℕ) (count : ℕ) (w : Bytes) where
  pub void_links : {q : Bool} → q ≡ same w void → q ≡ true → Links text T X count w (record { number = 0; looked = 0 })
  unfolding is_looked_up
  void_links e h = let v : same w void ≡ true = sym e ∙ h in record { looked_is = rw v; leads = λ s p. rw v }

  pub found_links : {q : Bool} → q ≡ same w void → q ≡ false → (f : Found) → f ≡ sought text T X count w → (n : ℕ) → n ≡ clipped f.number → (f.number ≡ 0 → ⊥)
      → Links text T X count w (record { number = n; looked = f.looked })
  unfolding is_looked_up
  found_links e h f s n c is_some =
      let v : same w void ≡ false = sym e ∙ h in
      record {
        looked_is = ap (λ (z : Found). z.looked) s ∙ rw v;
        leads = λ t p. rw v (ap (λ (z : Found). link_to t p (clipped z.number)) (sym s) ∙ go t p (clipped f.number) refl ∙ ap (λ (z : ℕ). going_to t is.Kind 0 (opened z)) (sym c));
      }
    where
      go : (t : State) (p j : ℕ) → clipped f.number ≡ j → link_to t p j ≡ going_to t is.Kind 0 (opened j)
      go t p zero z = absurd (is_some (omega arith))
      go t p (suc j) z = refl

-- ---- the modifier

-- the first byte of a word opens no comment and no command
opens_word : (b : ℕ) → (eqb b 35 || eqb b 33) ≡ false → opening_of is.Idle b ≡ opening.Word
unfolding is_idle
opens_word b h = rw (or_false_left (eqb b 35) (eqb b 33) h, or_false_right (eqb b 35) (eqb b 33) h)

module _ (text : Bytes) (T X : List ℕ) (room : Settings) where
  pub opens : (b : Between) (w : Passed) → PassesWord text b.at w → (eqb (get_or text w.place 0) 35 || eqb (get_or text w.place 0) 33) ≡ false → b.count < room.records
      → (l : Link) (x : Bytes) → x ≡ part text w.place w.len → Links text T X b.count x l → (k : ℕ) → k ≡ clipped (b.looked + l.looked)
      → Opens text T X room b (record { at = w.next; line = b.line + w.lines; looked = k; link = l.number })
  opens b w P h f l x q L k e = record {
    leads = λ R I.
        subst (λ (z : ℕ). Inv text T R X room (state_at b.count b.used w.next 0 z is.Kind (opened l.number))) (sym e)
        (modifier_step_lem text T R X room b.count b.used b.at b.looked (looked_small text T R X room (idle_at b) I) w.next w.lines P.passes l I
        (subst (λ (z : ℕ). opening_of is.Idle (get_or text z 0) ≡ opening.Word) P.place_is (opens_word (get_or text w.place 0) h)) f
        (subst (λ (z : Bytes). Links text T X b.count z l) (q ∙ (λ i. part text (P.place_is i) (P.len_is i))) L));
    further = (passed_on text b.at w.next w.lines P.passes).0;
    line_on = omega (arith, P.passes.lines_on);
  }

-- ---- the name

pub names : (text : Bytes) (at : ℕ) (w : Passed) → PassesWord text at w → {q : Bool} {x : Bytes} → x ≡ part text w.place w.len → q ≡ same x void → q ≡ false → Names text at w
names text at w P p e h =
    record { word = P; other = ap (λ (z : Bytes). same z void) (sym (p ∙ (λ i. part text (P.place_is i) (P.len_is i)))) ∙ sym e ∙ h }

-- where a name stands
module _ (text : Bytes) (at : ℕ) (n : Passed) (P : PassesWord text at n) where
  name_there : (at ≤ n.place) × (n.place ≤ length text)
  name_there = let o = passed_on text at n.next n.lines P.passes in (omega (arith, o.2, P.place_is), omega (arith, o.3, P.place_is))

-- ---- an alias

module _ (text : Bytes) (T X : List ℕ) (room : Settings) (b : Between) (link : ℕ) (n t : Passed) (N : Names text b.at n) (W : PassesWord text n.next t) where
  pub begins_alias : (x : Bytes) → x ≡ part text t.place t.len → (f : Found) → f ≡ sought text T X b.count x → (f.number ≡ 0 → ⊥) → (o : Draft) → o ≡ draft_in T f.number
      → (k target place size : ℕ) → k ≡ clipped (b.looked + f.looked) → target ≡ clipped f.number → place ≡ clipped n.place → size ≡ clipped n.len
      → Begins text T X room (alias_at b link) b.line (record {
        at = t.next;
        line = b.line + n.lines + t.lines;
        looked = k;
        reals = 0;
        named = b.line + n.before;
        draft = record { kind = o.kind; modifier = link; target = target; name = place; size = size; string = o.string; strings = o.strings; real = o.real; reals = o.reals };
      })
  begins_alias x q f s nz o e k target place size ek et ep es =
      let w : x ≡ word_bytes text n.next = q ∙ (λ i. part text (W.place_is i) (W.len_is i)) in
      let found : f ≡ sought text T X b.count (word_bytes text n.next) = s ∙ ap (sought text T X b.count) w in
      let from = passed_on text b.at n.next n.lines N.word.passes in
      let to = passed_on text n.next t.next t.lines W.passes in
      record {
        leads = λ R I.
            subst (λ (z : State). Left text T R X room 0 z) (λ i. state_at b.count b.used t.next 0 (sym (ek ∙ ap (λ (z : Found). clipped (b.looked + z.looked)) found) i) is.Real (sym (drafts found) i))
            (target_step_lem text T R X room b.count b.used n.next b.looked (looked_small text T R X room (alias_at b link) I) t.next t.lines W.passes (named_draft text T R X room b.count b.used b.at b.looked (looked_small text T R X room (alias_at b link) I) n.next n.lines N.word.passes (opened link))
            (alias_name_step text T R X room b.count b.used b.at b.looked (looked_small text T R X room (alias_at b link) I) n.next n.lines N.word.passes (opened link) I N.other)
            (λ z. nz (ap (λ (g : Found). g.number) found ∙ z)));
        further = omega (arith, from.0, to.0);
        line_on = omega (arith, N.word.passes.lines_on, W.passes.lines_on);
        place = n.place;
        place_behind = (name_there text b.at n N.word).0;
        place_within = (name_there text b.at n N.word).1;
        place_is = ep;
        named_on = omega (arith, N.word.lines_before);
      }
    where
      drafts : f ≡ sought text T X b.count (word_bytes text n.next)
          → ◌≡◌ {A = Draft} (record { kind = o.kind; modifier = link; target = target; name = place; size = size; string = o.string; strings = o.strings; real = o.real; reals = o.reals })
          (let h = (sought text T X b.count (word_bytes text n.next)).number in let u = draft_in T h in record { kind = u.kind; modifier = link; target = clipped h; name = clipped (word_at text b.at).place; size = clipped (word_at text b.at).len; string = u.string; strings = u.strings; real = u.real; reals = u.reals })
      drafts g =
          let num : f.number ≡ (sought text T X b.count (word_bytes text n.next)).number = ap (λ (z : Found). z.number) g in
          let src : o ≡ draft_in T (sought text T X b.count (word_bytes text n.next)).number = e ∙ ap (draft_in T) num in
          λ i. record { kind = (src i).kind; modifier = link; target = (et ∙ ap clipped num) i; name = (ep ∙ ap clipped N.word.place_is) i; size = (es ∙ ap clipped N.word.len_is) i; string = (src i).string; strings = (src i).strings; real = (src i).real; reals = (src i).reals }

-- ---- a primitive

-- the three counts
module _ (text : Bytes) (at : ℕ) (s i r : Valued ℕ) (S : PassesCount text at s) (I : PassesCount text s.next i) (R : PassesCount text i.next r) where
  pub lines_fit : (s.lines + i.lines + r.lines ≤ length text)
  lines_fit = omega (arith, S.passes.lines_on, I.passes.lines_on, R.passes.lines_on, line_most text r.next)

  pub counting : s.value ≡ 0 → i.value ≡ 0 → Counting text at (record { value = r.value; next = r.next; lines = s.lines + i.lines + r.lines })
  counting a b = record {
    strings = s;
    integers = i;
    reals = r;
    strings_are = S;
    no_strings = a;
    integers_are = I;
    no_integers = b;
    reals_are = R;
    so_many = refl;
    behind = refl;
    lines_on = omega (arith, S.passes.lines_on, I.passes.lines_on, R.passes.lines_on);
  }

module _ (text : Bytes) (T X : List ℕ) (room : Settings) (b : Between) (link kind : ℕ) (n : Passed) (c : Valued ℕ) (N : Names text b.at n) (C : Counting text n.next c) where
  -- the draft before its reals
  abbrev bare : Draft
  bare = record { kind = kind; modifier = link; target = 0; name = clipped (word_at text b.at).place; size = clipped (word_at text b.at).len; string = 0; strings = 0; real = 0; reals = 0 }

  abbrev whole : (place size real reals : ℕ) → Draft
  whole place size real reals = record { kind = kind; modifier = link; target = 0; name = place; size = size; string = 0; strings = 0; real = real; reals = reals }

  counted_draft : (m place size real : ℕ) → place ≡ clipped n.place → size ≡ clipped n.len → real ≡ cond (eqb m 0) 0 (clipped b.used) → (R : List Float) (k at next lines : ℕ) (l : k ≤ 4294967295) (P : Passes text at next lines)
      → with_reals_lem text T R X room b.count b.used at k l next lines P bare m ≡ whole place size real m
  counted_draft zero place size real p s r R k at next lines l P = sym (λ i. whole ((p ∙ ap clipped N.word.place_is) i) ((s ∙ ap clipped N.word.len_is) i) (r i) 0)
  counted_draft (suc m) place size real p s r R k at next lines l P = sym (λ i. whole ((p ∙ ap clipped N.word.place_is) i) ((s ∙ ap clipped N.word.len_is) i) ((r ∙ ap (λ (z : Bool). cond z 0 (clipped b.used)) (ne_eqb (suc m) 0 (λ e. omega arith))) i) (suc m))

  pub begins_primitive : strings_allowed kind 0 ≡ true → reals_allowed kind c.value ≡ true → b.used + c.value ≤ room.reals → (place size real : ℕ) → place ≡ clipped n.place → size ≡ clipped n.len → real ≡ cond (eqb c.value 0) 0 (clipped b.used)
      → Begins text T X room (primitive_at b link kind) b.line (record {
        at = c.next;
        line = b.line + n.lines + c.lines;
        looked = b.looked;
        reals = c.value;
        named = b.line + n.before;
        draft = whole place size real c.value;
      })
  begins_primitive a r f place size real ep es er =
      let s = C.strings in
      let i = C.integers in
      let u = C.reals in
      let p0 = passed_on text b.at n.next n.lines N.word.passes in
      let p1 = passed_on text n.next s.next s.lines C.strings_are.passes in
      let p2 = passed_on text s.next i.next i.lines C.integers_are.passes in
      let p3 = passed_on text i.next u.next u.lines C.reals_are.passes in
      record {
        leads = λ R I.
            let l = looked_small text T R X room (primitive_at b link kind) I in
            let at_strings = name_step_lem text T R X room b.count b.used b.at b.looked l n.next n.lines N.word.passes (with_kind (opened link) kind) I N.other in
            let at_integers = strings_step text T R X room b.count b.used n.next b.looked l s.next s.lines C.strings_are.passes _ at_strings (C.strings_are.value_is ∙ ap some C.no_strings) a in
            let at_reals = integers_step text T R X room b.count b.used s.next b.looked l i.next i.lines C.integers_are.passes bare at_integers (C.integers_are.value_is ∙ ap some C.no_integers) in
            let all = reals_step text T R X room b.count b.used i.next b.looked l u.next u.lines C.reals_are.passes bare c.value at_reals (C.reals_are.value_is ∙ ap some (sym C.so_many)) r f in
            subst (λ (z : State). Left text T R X room c.value z) (λ j. state_at b.count b.used (sym C.behind j) 0 b.looked is.Real (counted_draft c.value place size real ep es er R b.looked i.next u.next u.lines l C.reals_are.passes j)) all;
        further = omega (arith, p0.0, p1.0, p2.0, p3.0, C.behind);
        line_on = omega (arith, N.word.passes.lines_on, C.lines_on);
        place = n.place;
        place_behind = (name_there text b.at n N.word).0;
        place_within = (name_there text b.at n N.word).1;
        place_is = ep;
        named_on = omega (arith, N.word.lines_before);
      }

-- ---- a whole head

module _ (text : Bytes) (T X : List ℕ) (room : Settings) where
  -- words before
  pub begins_on : (s s' : State) (line line' : ℕ) → Leads text T X room s line s' line' → s.count ≡ s'.count → s.used ≡ s'.used → (r : Head) → Begins text T X room s' line' r → Begins text T X room s line r
  begins_on s s' line line' L ec eu r B =
      let f = L.further in
      record {
        leads = λ R I. subst (λ (z : State). Left text T R X room r.reals z) (λ i. state_at (sym ec i) (sym eu i) r.at 0 r.looked is.Real r.draft) (B.leads R (L.leads R I));
        further = omega (arith, B.further);
        line_on = omega (arith, B.line_on, L.line_on);
        place = B.place;
        place_behind = omega (arith, B.place_behind);
        place_within = B.place_within;
        place_is = B.place_is;
        named_on = omega (arith, B.named_on, L.line_on);
      }

  -- a word more
  module _ (s : State) (line : ℕ) (count used looked link : ℕ) (m : Opened) (L : Leads text T X room s line (state_at count used m.at 0 m.looked is.Kind (opened m.link)) m.line) (w : Passed) (W : PassesWord text m.at w) where
    word_on : (s' : State) → s'.at ≡ w.next → ((R : List Float) → Inv text T R X room (state_at count used m.at 0 m.looked is.Kind (opened m.link)) → Inv text T R X room s') → Leads text T X room s line s' (m.line + w.lines)
    word_on s' q g =
        let p = passed_on text m.at w.next w.lines W.passes in
        record { leads = λ R I. g R (L.leads R I); further = omega (arith, L.further, p.0); line_on = omega (arith, L.line_on, W.passes.lines_on, ap (line_at text) q) }

    word_is : {x : Bytes} → x ≡ part text w.place w.len → x ≡ word_bytes text m.at
    word_is q = q ∙ (λ i. part text (W.place_is i) (W.len_is i))

    pub on_alias : {x : Bytes} {q : Bool} → x ≡ part text w.place w.len → q ≡ same x (bytes "alias") → q ≡ true → Leads text T X room s line (state_at count used w.next 0 m.looked is.AliasName (opened m.link)) (m.line + w.lines)
    on_alias e a h = word_on (state_at count used w.next 0 m.looked is.AliasName (opened m.link)) refl (λ R I. alias_step text T R X room count used m.at m.looked (looked_small text T R X room _ I) w.next w.lines W.passes (opened m.link) I (ap (λ (z : Bytes). same z (bytes "alias")) (sym (word_is e)) ∙ sym a ∙ h))

    pub on_kind : {x : Bytes} {q : Bool} → x ≡ part text w.place w.len → q ≡ same x (bytes "alias") → q ≡ false → (t : ℕ) → t ≡ type_number x → (t ≡ 0 → ⊥) → is_retired room.mode t ≡ false → Leads text T X room s line (state_at count used w.next 0 m.looked is.Name (with_kind (opened m.link) t)) (m.line + w.lines)
    on_kind e a h t k nz o = word_on (state_at count used w.next 0 m.looked is.Name (with_kind (opened m.link) t)) refl (λ R I. kind_step_lem text T R X room count used m.at m.looked (looked_small text T R X room _ I) w.next w.lines W.passes (opened m.link) t I (ap (λ (z : Bytes). same z (bytes "alias")) (sym (word_is e)) ∙ sym a ∙ h) (k ∙ ap type_number (word_is e)) nz o)
