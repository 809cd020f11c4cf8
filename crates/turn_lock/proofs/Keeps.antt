-- Each step keeps the rule, and tells what it says.
use Rattle.std.proofs.Common.{◌≡◌, ◌≢◌, ◌⊎◌, inl, inr, ⊎_elim, ℕ, zero, suc, ◌+◌, ◌%◌, ◌<◌, ◌≤◌, ◌==◌, Bool, true, false, List, [], ◌∷◌, ◌++◌, length, set, refl, sym, ap, ◌∙◌, subst, arith, append-nil, eqb-true, ne_eqb, lt_of_not-le, length-append}
use Rattle.std.specs.Prelude.{Some, slice_index, slice_set, MatchBool, ◌^◌, if◌then◌else◌, Option}
use Rattle.std.proofs.lemmas.Bool.Decides.{nat_tests}
use mathlib.Core.Logic.{dite}
use native.Mathlib.Decide.{dec_le, ℕ_discrete}
use Rattle.std.proofs.Math.Nat.{mod-add-mod, mod-eq_of_lt}
use mathlib.Core.Option.{some, none, some-injective, some-ne-none}
use mathlib.Core.List.{IsPrefix}
use lib.ListN.{get_elem?}
use Rattle.atomic_table.specs.Table.{State, Me, step, Act, keeps, takes, gives, carried_after, homes_after, rest, Valid, Allows, Splits, Joins, stepped, opening, Final, Seen}
use Rattle.atomic_table.proofs.Lists.{at_set, at_snoc, set_else, set_again, one_turn}
use Rattle.turn_lock.specs.declared.rule.TheConstants.{MOST_PASSES}
use Rattle.turn_lock.specs.declared.rule.Stage.{Stage}
use Rattle.turn_lock.specs.declared.rule.Stage.TheVariants.{Spent, Away, Waiting, Inside}
use Rattle.turn_lock.specs.declared.rule.View.{View}
use Rattle.turn_lock.specs.Calls.{calls_of, kept_of}
use Rattle.turn_lock.specs.Rule.{total, is_it, once_between, lives, waits, has_ticket, has_turn, counts, bears, times_joined, root_view, Fits, Housed, Ruled}
use Rattle.turn_lock.specs.Steps.{after_split, newcomer, after_join, spent, after_compare, with_entries, drew, passed_on, compared, committed, Enters, looked}
use Rattle.turn_lock.proofs.Totals.{total-set, total-same, total-append, total_above, total_above_two, total_le, total_le_at, is_it-same, is_it-other, is_it_most, once_inside, once_none, once_most, once_only, once_longer, once_shorter}
use Rattle.turn_lock.proofs.Lists.{prefix_self, prefix_nil, prefix_more, longer_begins, calls_of-more, calls_of-other, kept_of-none, kept_of-last, kept_of-other}

counts-lives : (x : Stage) (n : ℕ) → lives x ≡ 1 → counts x n ≡ n
counts-lives Spent n h = absurd (omega arith)
counts-lives Away n h = refl
counts-lives (Waiting t) n h = refl
counts-lives (Inside t) n h = refl

turn_le_lives : (x : Stage) → has_turn x ≤ lives x
turn_le_lives Spent = omega arith
turn_le_lives Away = omega arith
turn_le_lives (Waiting t) = omega arith
turn_le_lives (Inside t) = omega arith

bears_le_lives : {E F : Type 0} (n : ℕ) (v : View E F) → bears n v ≤ lives v.stage
bears_le_lives n v = by v.stage (is_it n v.number) (is_it_most n v.number)
  where
    by : (x : Stage) (k : ℕ) → k ≤ 1 → counts x k ≤ lives x
    by Spent k h = omega arith
    by Away k h = h
    by (Waiting t) k h = h
    by (Inside t) k h = h

-- a number that was not given was not joined
times_none : (n given times : ℕ) → given ≤ n → times ≤ once_between 0 given n → times ≡ 0
times_none n given times above h = grind (arith, nat_tests)

waits_le_lives : (x : Stage) → waits x ≤ lives x
waits_le_lives Spent = omega arith
waits_le_lives Away = omega arith
waits_le_lives (Waiting t) = omega arith
waits_le_lives (Inside t) = omega arith

turn_lives : (x : Stage) → has_turn x ≡ 1 → lives x ≡ 1
turn_lives Spent h = absurd (omega arith)
turn_lives Away h = refl
turn_lives (Waiting t) h = refl
turn_lives (Inside t) h = refl

abbrev ticket_of : Stage → ℕ
ticket_of Spent = 0
ticket_of Away = 0
ticket_of (Waiting t) = t
ticket_of (Inside t) = t

-- a pass either has no turn, or has it and lives
turn_cases : (x : Stage) → (has_turn x ≡ 0) ⊎ ((has_turn x ≡ 1) × (lives x ≡ 1))
turn_cases Spent = inl refl
turn_cases Away = inl refl
turn_cases (Waiting t) = inl refl
turn_cases (Inside t) = inr (refl, refl)

module _ {S E F : Type 0} (entries : S → List E) (fixed : S → F) (caller : E → ℕ) (part : F) where
  abbrev V : Type 0
  V = View E F

  abbrev R : State (Option S) V → Type 0
  R = Ruled entries fixed caller part

  -- what holds of each other pass and of the one that changed holds of all
  each_set : (P : V → Type 0) (views : List V) (id : ℕ) (w : V) → ((j : ℕ) (u : V) → j ≢ id → get_elem? views j ≡ some u → lives u.stage ≡ 1 → P u) → (lives w.stage ≡ 1 → P w)
      → (j : ℕ) (u : V) → get_elem? (set views id w) j ≡ some u → lives u.stage ≡ 1 → P u
  each_set P views id w others mine j u e live =
      ⊎_elim
      (λ (t : (j ≡ id) × (w ≡ u)). subst (λ (x : V). lives x.stage ≡ 1 → P x) t.1 mine live)
      (λ (t : (j ≢ id) × (get_elem? views j ≡ some u)). others j u t.0 t.1 live)
      (at_set views id j w u e)

  -- two passes that were not joined have two numbers
  apart : (s : State (Option S) V) (r : R s) (i j : ℕ) (v u : V) → i ≢ j → get_elem? s.views i ≡ some v → get_elem? s.views j ≡ some u → lives v.stage ≡ 1 → lives u.stage ≡ 1 → u.number ≢ v.number
  apart s r i j v u ne at at' live live' same =
      let two = total_above_two (bears v.number) s.views i j v u ne at at' in
      let one : bears v.number v ≡ 1 = counts-lives v.stage (is_it v.number v.number) live ∙ is_it-same v.number in
      let one' : bears v.number u ≡ 1 = counts-lives u.stage (is_it v.number u.number) live' ∙ (ap (is_it v.number) same ∙ is_it-same v.number) in
      let p = r.numbers v.number in
      let most = once_most 0 r.given v.number in
      absurd (omega arith)

  -- a pass that was not joined has a number that was given, and that is not among those joined
  given_to : (s : State (Option S) V) (r : R s) (i : ℕ) (v : V) → get_elem? s.views i ≡ some v → lives v.stage ≡ 1 → (v.number < r.given) × (times_joined v.number r.joined ≡ 0)
  given_to s r i v at live =
      let above = total_above (bears v.number) s.views i v at in
      let one : bears v.number v ≡ 1 = counts-lives v.stage (is_it v.number v.number) live ∙ is_it-same v.number in
      let p = r.numbers v.number in
      let most = once_most 0 r.given v.number in
      let inside = once_only 0 r.given v.number (omega arith) in
      (inside.1, omega arith)

  -- a pass with the turn has the ticket that is served, no other has the turn, and the state is out
  in_turn : (s : State (Option S) V) (r : R s) (i : ℕ) (v : V) → get_elem? s.views i ≡ some v → has_turn v.stage ≡ 1
      → (lives v.stage ≡ 1) × (v.stage ≡ Inside r.serving) × (v.seen ≡ r.log) × (s.homes ≡ none ∷ []) × (total (λ (u : V). has_turn u.stage) s.views ≡ 1) × (r.serving < r.ticket)
  in_turn s r i v at turn =
      let live : lives v.stage ≡ 1 = turn_lives v.stage turn in
      let mine = (r.each_pass i v at live).turn turn in
      let above = total_above (λ (u : V). has_turn u.stage) s.views i v at in
      let out = ⊎_elim
      (λ (t : (x : S) × (s.homes ≡ some (Some x) ∷ []) × (entries x ≡ r.log) × (fixed x ≡ part) × (total (λ (u : V). has_turn u.stage) s.views ≡ 0)). absurd (let z = t.4 in omega arith))
      (λ (t : (s.homes ≡ none ∷ []) × (total (λ (u : V). has_turn u.stage) s.views ≡ 1)). t)
      r.home in
      let ticket = total_above (λ (u : V). has_ticket r.serving u.stage) s.views i v at in
      let own : has_ticket r.serving v.stage ≡ 1 = ap (has_ticket r.serving) mine.0 ∙ is_it-same r.serving in
      let p = r.tickets r.serving in
      let range = once_only r.serving r.ticket r.serving (omega arith) in
      (live, mine.0, mine.1, out.0, out.1, range.1)

  others_wait : (s : State (Option S) V) (r : R s) (i j : ℕ) (v u : V) → j ≢ i → get_elem? s.views i ≡ some v → get_elem? s.views j ≡ some u → has_turn v.stage ≡ 1 → has_turn u.stage ≢ 1
  others_wait s r i j v u ne at at' turn turn' =
      let two = total_above_two (λ (x : V). has_turn x.stage) s.views i j v u (λ e. ne (sym e)) at at' in
      let one = (in_turn s r i v at turn).4 in
      absurd (omega arith)

  -- a pass draws a ticket
  pub draws : (slots id : ℕ) (v : V) (c : List (ℕ × Option S)) → v.stage ≡ Away → Allows R slots id (v, c) 0 (λ n. (n + 1) % 2 ^ 64) (drew (step slots 0 1 0 none) (v, c))
  draws slots id v c away s r long at small =
      let w : V = record v { stage = Waiting r.ticket } in
      let mine = r.each_pass id v at (ap lives away) in
      let turn : has_turn v.stage ≡ 0 = ap has_turn away in
      let waiting : waits v.stage ≡ 0 = ap waits away in
      let live : lives v.stage ≡ 1 = ap lives away in
      let turns = total-set (λ (u : V). has_turn u.stage) s.views id v w at in
      let turns' : total (λ (u : V). has_turn u.stage) (set s.views id w) ≡ total (λ (u : V). has_turn u.stage) s.views = omega arith in
      let queued = total-set (λ (u : V). waits u.stage) s.views id v w at in
      let lived = total-set (λ (u : V). lives u.stage) s.views id v w at in
      let le : r.serving ≤ r.ticket = let q = r.queue in omega arith in (
        w,
        keeps,
        tt,
        record {
          log = r.log;
          ticket = r.ticket + 1;
          serving = r.serving;
          given = r.given;
          joined = r.joined;
          words = ap (λ ws. slice_set ws 0 ((slice_index ws 0 + 1) % 2 ^ 64)) r.words ∙ ap (λ n. n ∷ r.serving % 2 ^ 64 ∷ length r.log ∷ []) (mod-add-mod r.ticket (2 ^ 64) 1);
          home = subst (Housed entries fixed caller part r.log s.homes) (sym turns') r.home;
          tickets = λ k.
              let t = total-set (λ (u : V). has_ticket k u.stage) s.views id v w at in
              let none-yet : has_ticket k v.stage ≡ 0 = ap (has_ticket k) away in
              let o = once_longer r.serving r.ticket k le in
              let p = r.tickets k in
              omega arith;
          queue = let q = r.queue in omega arith;
          numbers = λ n.
              let t = total-set (bears n) s.views id v w at in
              let same : bears n v ≡ is_it n v.number = counts-lives v.stage (is_it n v.number) live in
              let p = r.numbers n in
              omega arith;
          passes = let p = r.passes in omega arith;
          few = r.few;
          each_pass = each_set (Fits entries fixed caller part r.log r.serving r.given r.joined) s.views id w
              (λ j u ne e l. r.each_pass j u e l)
              (λ _. record { seen = mine.seen; told = mine.told; own = mine.own; part_is = mine.part_is; root = mine.root; turn = λ h. absurd (omega arith) });
          calls_kept = r.calls_kept;
          no_others = r.no_others;
        },
        (r.ticket, ap (λ ws. slice_index ws 0) r.words, refl),
      )

  abbrev Looked : List (ℕ × Option S) → ℕ → State (Option S) V → ℕ → V → Type 0
  Looked c slots s id v = (w : V) × (a : Act (Option S)) × Valid s.homes c a × R (stepped s 1 (slice_index s.words 1) id c w a) × looked entries fixed caller (step slots 1 0 0 none) (v, c) (slice_index s.words 1) (w, carried_after c a)

  -- a pass looks which ticket is served
  pub looks : (slots id : ℕ) (v : V) (c : List (ℕ × Option S)) (t : ℕ) → v.stage ≡ Waiting t → Allows R slots id (v, c) 1 (λ n. n) (looked entries fixed caller (step slots 1 0 0 none) (v, c))
  looks slots id v c t waiting s r long at small = by (slice_index s.words 1 == t % 2 ^ 64) refl
    where
      stays : slice_set s.words 1 (slice_index s.words 1) ≡ s.words
      stays = ap (λ ws. slice_set ws 1 (slice_index ws 1)) r.words ∙ sym r.words

      word : slice_index s.words 1 ≡ r.serving % 2 ^ 64
      word = ap (λ ws. slice_index ws 1) r.words

      -- the ticket that is served is the pass's own
      served : (slice_index s.words 1 == t % 2 ^ 64) ≡ true → r.serving ≡ t
      served e =
          let above = total_above (λ (u : V). has_ticket t u.stage) s.views id v at in
          let own : has_ticket t v.stage ≡ 1 = ap (has_ticket t) waiting ∙ is_it-same t in
          let p = r.tickets t in
          let range = once_only r.serving r.ticket t (omega arith) in
          let queue = r.queue in
          let fewer = total_le (λ (u : V). waits u.stage) (λ (u : V). lives u.stage) s.views (λ j u _. waits_le_lives u.stage) in
          let passes = r.passes in
          let few = r.few in
          one_turn r.serving t (2 ^ 64) range.0 (omega arith) (sym word ∙ eqb-true _ _ e)

      -- no pass has the turn
      nobody : r.serving ≡ t → total (λ (u : V). has_turn u.stage) s.views ≡ 0
      nobody same =
          let most = total_le_at (λ (u : V). has_turn u.stage) (λ (u : V). has_ticket t u.stage) s.views id v
          (λ j u e. ⊎_elim
          (λ (z : has_turn u.stage ≡ 0). omega arith)
          (λ (z : (has_turn u.stage ≡ 1) × (lives u.stage ≡ 1)).
          let has : has_ticket t u.stage ≡ 1 = ap (has_ticket t) ((r.each_pass j u e z.1).turn z.0).0 ∙ (ap (is_it t) same ∙ is_it-same t) in
          let one = z.0 in omega arith)
          (turn_cases u.stage))
          at in
          let own : has_ticket t v.stage ≡ 1 = ap (has_ticket t) waiting ∙ is_it-same t in
          let none-yet : has_turn v.stage ≡ 0 = ap has_turn waiting in
          let p = r.tickets t in
          let one = once_most r.serving r.ticket t in
          omega arith

      same_ticket : (t' : ℕ) → v.stage ≡ Waiting t' → t ≡ t'
      same_ticket t' e = ap ticket_of (sym waiting ∙ e)

      tells : (now : Me (Option S) V) (t' : ℕ) → v.stage ≡ Waiting t' → (b : Bool) → (slice_index s.words 1 == t % 2 ^ 64) ≡ b → MatchBool b (Enters entries fixed caller (v, c) t now) (now ≡ (v, c))
          → MatchBool (slice_index s.words 1 == t' % 2 ^ 64) (Enters entries fixed caller (v, c) t' now) (now ≡ (v, c))
      tells now t' e' b is h =
          let P : Bool → ℕ → Type 0 = λ b k. MatchBool b (Enters entries fixed caller (v, c) k now) (now ≡ (v, c)) in
          subst (λ k. P (slice_index s.words 1 == k % 2 ^ 64) k) (same_ticket t' e') (subst (λ b. P b t) (sym is) h)

      takes_turn : (slice_index s.words 1 == t % 2 ^ 64) ≡ true → Looked c slots s id v
      takes_turn e =
          let same = served e in
          let zero-turns = nobody same in
          ⊎_elim
          (λ (h : (x : S) × (s.homes ≡ some (Some x) ∷ []) × (entries x ≡ r.log) × (fixed x ≡ part) × (total (λ (u : V). has_turn u.stage) s.views ≡ 0)).
          let x : S = h.0 in
          let w : V = record v { stage = Inside t; seen = entries x } in
          let live : lives v.stage ≡ 1 = ap lives waiting in
          let mine = r.each_pass id v at live in
          let turns = total-set (λ (u : V). has_turn u.stage) s.views id v w at in
          let none-yet : has_turn v.stage ≡ 0 = ap has_turn waiting in (
            w,
            takes 0 (Some x),
            ap (λ hs. get_elem? hs 0) h.1,
            record {
              log = r.log;
              ticket = r.ticket;
              serving = r.serving;
              given = r.given;
              joined = r.joined;
              words = stays ∙ r.words;
              home = inr (ap (λ hs. slice_set hs 0 none) h.1, omega arith);
              tickets = λ k. total-same (λ (u : V). has_ticket k u.stage) s.views id v w at (sym (ap (has_ticket k) waiting)) ∙ r.tickets k;
              queue = let q = r.queue in let u = total-same (λ (u : V). waits u.stage) s.views id v w at (sym (ap waits waiting)) in omega arith;
              numbers = λ n. let p = r.numbers n in let u = total-same (bears n) s.views id v w at (sym (counts-lives v.stage (is_it n v.number) live)) in omega arith;
              passes = let p = r.passes in let u = total-same (λ (u : V). lives u.stage) s.views id v w at (sym live) in omega arith;
              few = r.few;
              each_pass = each_set (Fits entries fixed caller part r.log r.serving r.given r.joined) s.views id w
                  (λ j u ne e l. r.each_pass j u e l)
                  (λ _. record { seen = subst (λ l. IsPrefix l r.log) (sym h.2) (prefix_self r.log); told = mine.told; own = mine.own; part_is = mine.part_is; root = mine.root; turn = λ _. (ap Inside (sym same), h.2) });
              calls_kept = r.calls_kept;
              no_others = r.no_others;
            },
            λ t' e'. tells (w, (0, Some x) ∷ c) t' e' true e
                (x, refl, subst (λ l. IsPrefix v.seen l) (sym h.2) mine.seen, subst (λ l. calls_of caller v.number l ≡ v.own) (sym h.2) mine.own, mine.part_is ∙ ap Some (sym h.3)),
          ))
          (λ (h : (s.homes ≡ none ∷ []) × (total (λ (u : V). has_turn u.stage) s.views ≡ 1)). absurd (let z = h.1 in omega arith))
          r.home

      goes_on : (slice_index s.words 1 == t % 2 ^ 64) ≡ false → Looked c slots s id v
      goes_on e = (
        v,
        keeps,
        tt,
        subst R (λ i. record { words = sym stays i; homes = s.homes; views = sym (set_again s.views id v at) i }) r,
        λ t' e'. tells (v, c) t' e' false e refl,
      )

      by : (b : Bool) → (slice_index s.words 1 == t % 2 ^ 64) ≡ b → Looked c slots s id v
      by true e = takes_turn e
      by false e = goes_on e

  -- a pass adds an entry
  pub adds : (slots id : ℕ) (v : V) (c : List (ℕ × Option S)) (e : E) → has_turn v.stage ≡ 1 → caller e ≡ v.number → length v.seen + 1 < 2 ^ 64
      → Allows R slots id (v, c) 2 (λ n. (n + 1) % 2 ^ 64) (committed (e ∷ []) (step slots 2 1 0 none) (v, c))
  adds slots id v c e turn by room s r long at small =
      let w : V = with_entries v (e ∷ []) in
      let t = in_turn s r id v at turn in
      let live = t.0 in
      let mine = r.each_pass id v at live in
      let given = given_to s r id v at live in
      let log : List E = r.log ++ e ∷ [] in
      let len : length log ≡ length r.log + 1 = length-append r.log (e ∷ []) in
      let fits : length r.log + 1 < 2 ^ 64 = subst (λ (l : List E). length l + 1 < 2 ^ 64) t.2 room in
      let same-turns = total-same (λ (u : V). has_turn u.stage) s.views id v w at refl in (
        w,
        keeps,
        tt,
        record {
          log = log;
          ticket = r.ticket;
          serving = r.serving;
          given = r.given;
          joined = r.joined;
          words = ap (λ ws. slice_set ws 2 ((slice_index ws 2 + 1) % 2 ^ 64)) r.words ∙ ap (λ n. r.ticket % 2 ^ 64 ∷ r.serving % 2 ^ 64 ∷ n ∷ []) (mod-eq_of_lt fits ∙ sym len);
          home = inr (t.3, same-turns ∙ t.4);
          tickets = λ k. total-same (λ (u : V). has_ticket k u.stage) s.views id v w at refl ∙ r.tickets k;
          queue = let q = r.queue in let u = total-same (λ (u : V). waits u.stage) s.views id v w at refl in omega arith;
          numbers = λ n. let p = r.numbers n in let u = total-same (bears n) s.views id v w at refl in omega arith;
          passes = let p = r.passes in let u = total-same (λ (u : V). lives u.stage) s.views id v w at refl in omega arith;
          few = r.few;
          each_pass = each_set (Fits entries fixed caller part log r.serving r.given r.joined) s.views id w
              (λ j u ne at' l.
              let theirs = r.each_pass j u at' l in
              let other = apart s r id j v u (λ i. ne (sym i)) at at' live l in record {
                seen = prefix_more u.seen r.log (e ∷ []) theirs.seen;
                told = prefix_more u.told r.log (e ∷ []) theirs.told;
                own = calls_of-other caller u.number r.log e (λ i. other (sym i ∙ by)) ∙ theirs.own;
                part_is = theirs.part_is;
                root = theirs.root;
                turn = λ h. absurd (others_wait s r id j v u ne at at' turn h);
              })
              (λ _. record {
                seen = subst (λ l. IsPrefix (l ++ e ∷ []) log) (sym t.2) (prefix_self log);
                told = prefix_more v.told r.log (e ∷ []) mine.told;
                own = calls_of-more caller v.number r.log e by ∙ ap (λ l. l ++ e ∷ []) mine.own;
                part_is = mine.part_is;
                root = mine.root;
                turn = λ _. (t.1, ap (λ l. l ++ e ∷ []) t.2);
              });
          calls_kept = λ n h. calls_of-other caller n r.log e (λ i. let z : times_joined n r.joined ≡ 0 = subst (λ k. times_joined k r.joined ≡ 0) (sym by ∙ i) given.1 in absurd (omega arith)) ∙ r.calls_kept n h;
          no_others = λ n h. calls_of-other caller n r.log e (λ i. let z : v.number ≡ n = sym by ∙ i in let l = given.0 in absurd (omega arith)) ∙ r.no_others n h;
        },
        refl,
      )

  -- a pass puts the state home and passes the turn on
  pub passes_on : (slots id : ℕ) (v : V) (c : List (ℕ × Option S)) (x : S) → c ≡ (0, Some x) ∷ [] → has_turn v.stage ≡ 1 → entries x ≡ v.seen → v.fixed ≡ Some (fixed x)
      → Allows R slots id (v, c) 1 (λ n. (n + 1) % 2 ^ 64) (passed_on (step slots 1 1 0 none) (v, c))
  passes_on slots id v c x in-hand turn list same-part s r long at small =
      let w : V = record v { stage = Away } in
      let t = in_turn s r id v at turn in
      let live = t.0 in
      let mine = r.each_pass id v at live in
      let turns = total-set (λ (u : V). has_turn u.stage) s.views id v w at in
      let waiting : waits v.stage ≡ 1 = ap waits t.1 in
      let queued = total-set (λ (u : V). waits u.stage) s.views id v w at in
      let one = t.4 in
      let part-is : fixed x ≡ part = let z : Some (fixed x) ≡ Some part = sym same-part ∙ mine.part_is in cc in (
        w,
        gives,
        tt,
        record {
          log = r.log;
          ticket = r.ticket;
          serving = r.serving + 1;
          given = r.given;
          joined = r.joined;
          words = ap (λ ws. slice_set ws 1 ((slice_index ws 1 + 1) % 2 ^ 64)) r.words ∙ ap (λ n. r.ticket % 2 ^ 64 ∷ n ∷ length r.log ∷ []) (mod-add-mod r.serving (2 ^ 64) 1);
          home = inl (x, (λ i. homes_after (t.3 i) (in-hand i) gives), list ∙ t.2, part-is, omega arith);
          tickets = λ k.
              let p = r.tickets k in
              let h = total-set (λ (u : V). has_ticket k u.stage) s.views id v w at in
              let own : has_ticket k v.stage ≡ is_it k r.serving = ap (has_ticket k) t.1 in
              let o = once_shorter r.serving r.ticket k t.5 in
              omega arith;
          queue = let q = r.queue in omega arith;
          numbers = λ n. let p = r.numbers n in let u = total-same (bears n) s.views id v w at (sym (counts-lives v.stage (is_it n v.number) live)) in omega arith;
          passes = let p = r.passes in let u = total-same (λ (u : V). lives u.stage) s.views id v w at (sym live) in omega arith;
          few = r.few;
          each_pass = each_set (Fits entries fixed caller part r.log (r.serving + 1) r.given r.joined) s.views id w
              (λ j u ne at' l. let theirs = r.each_pass j u at' l in record { seen = theirs.seen; told = theirs.told; own = theirs.own; part_is = theirs.part_is; root = theirs.root; turn = λ h. absurd (others_wait s r id j v u ne at at' turn h) })
              (λ _. record { seen = mine.seen; told = mine.told; own = mine.own; part_is = mine.part_is; root = mine.root; turn = λ h. absurd (omega arith) });
          calls_kept = r.calls_kept;
          no_others = r.no_others;
        },
        ap (λ (l : List (ℕ × Option S)). (w, rest l)) in-hand,
      )

  -- the root splits off a pass
  pub splits : (id : ℕ) (v : V) → v.stage ≡ Away → v.number ≡ 0 → v.given < MOST_PASSES → Splits R id v (after_split v) (newcomer v)
  splits id v away root room s r at =
      let w : V = after_split v in
      let n' : V = newcomer v in
      let live : lives v.stage ≡ 1 = ap lives away in
      let mine = r.each_pass id v at live in
      let count : v.given ≡ r.given = (mine.root root).0 in
      let given = given_to s r id v at live in
      let sums : (f : V → ℕ) → f w ≡ f v → total f (set s.views id w ++ n' ∷ []) ≡ total f s.views + f n' = λ f same.
      let a = total-append f (set s.views id w) (n' ∷ []) in let b = total-same f s.views id v w at same in omega arith in
      let turns = sums (λ u. has_turn u.stage) refl in
      record {
        log = r.log;
        ticket = r.ticket;
        serving = r.serving;
        given = r.given + 1;
        joined = r.joined;
        words = r.words;
        home = subst (Housed entries fixed caller part r.log s.homes) (let z : total (λ (u : V). has_turn u.stage) s.views ≡ total (λ (u : V). has_turn u.stage) (set s.views id w ++ n' ∷ []) = omega arith in z) r.home;
        tickets = λ k. let p = r.tickets k in let u = sums (λ x. has_ticket k x.stage) refl in omega arith;
        queue = let q = r.queue in let u = sums (λ x. waits x.stage) refl in omega arith;
        numbers = λ n. let p = r.numbers n in let u = sums (bears n) refl in let o = once_longer 0 r.given n (omega arith) in let i : is_it n v.given ≡ is_it n r.given = ap (is_it n) count in omega arith;
        passes = let p = r.passes in let u = sums (λ x. lives x.stage) refl in omega arith;
        few = omega arith;
        each_pass = λ j u e l. ⊎_elim
            (λ (z : get_elem? (set s.views id w) j ≡ some u).
            each_set (Fits entries fixed caller part r.log r.serving (r.given + 1) r.joined) s.views id w
            (λ j u ne at' l. let theirs = r.each_pass j u at' l in record { seen = theirs.seen; told = theirs.told; own = theirs.own; part_is = theirs.part_is; turn = theirs.turn; root = λ i. absurd (apart s r id j v u (λ k. ne (sym k)) at at' live l (i ∙ sym root)) })
            (λ _. record { seen = mine.seen; told = mine.told; own = mine.own; part_is = mine.part_is; turn = mine.turn; root = λ _. (ap (λ n. n + 1) count, (mine.root root).1) })
            j u z l)
            (λ (z : n' ≡ u).
            let new : Fits entries fixed caller part r.log r.serving (r.given + 1) r.joined n' = record {
              seen = mine.seen;
              told = prefix_nil r.log;
              own = r.no_others v.given (omega arith);
              part_is = mine.part_is;
              turn = λ h. absurd (omega arith);
              root = λ i. let z : v.number ≡ 0 = root in let k = given.0 in absurd (omega arith);
            } in subst (Fits entries fixed caller part r.log r.serving (r.given + 1) r.joined) z new)
            (at_snoc (set s.views id w) n' u j e);
        calls_kept = r.calls_kept;
        no_others = λ n h. r.no_others n (omega arith);
      }

  -- the root takes in a pass
  pub joins : (id : ℕ) (v : V) (other : ℕ) (u : V) → v.stage ≡ Away → v.number ≡ 0 → u.stage ≡ Away → Joins R id v other u (after_join v u) spent
  joins id v other u away root away' s r at ne there =
      let w : V = after_join v u in
      let gone : V = spent in
      let at' : get_elem? s.views other ≡ some u = sym (set_else s.views id other w ne) ∙ there in
      let live : lives v.stage ≡ 1 = ap lives away in
      let live' : lives u.stage ≡ 1 = ap lives away' in
      let mine = r.each_pass id v at live in
      let theirs = r.each_pass other u at' live' in
      let given = given_to s r other u at' live' in
      let joined : List (ℕ × List E) = r.joined ++ (u.number, u.own) ∷ [] in
      let same-joined : v.joined ≡ r.joined = (mine.root root).1 in
      let sums : (f : V → ℕ) → f w ≡ f v → total f (set (set s.views id w) other gone) + f u ≡ total f s.views + f gone = λ f same.
      let a = total-set f (set s.views id w) other u gone there in let b = total-same f s.views id v w at same in omega arith in
      let turns = sums (λ x. has_turn x.stage) refl in
      let no-turn : has_turn u.stage ≡ 0 = ap has_turn away' in
      let times : (n : ℕ) → times_joined n joined ≡ times_joined n r.joined + is_it n u.number = λ n.
      let a = total-append (λ (p : ℕ × List E). is_it n p.0) r.joined ((u.number, u.own) ∷ []) in omega arith in
      record {
        log = r.log;
        ticket = r.ticket;
        serving = r.serving;
        given = r.given;
        joined = joined;
        words = r.words;
        home = subst (Housed entries fixed caller part r.log s.homes) (let z : total (λ (x : V). has_turn x.stage) s.views ≡ total (λ (x : V). has_turn x.stage) (set (set s.views id w) other gone) = omega arith in z) r.home;
        tickets = λ k. let p = r.tickets k in let t = sums (λ x. has_ticket k x.stage) refl in let z : has_ticket k u.stage ≡ 0 = ap (has_ticket k) away' in omega arith;
        queue = let q = r.queue in let t = sums (λ x. waits x.stage) refl in let z : waits u.stage ≡ 0 = ap waits away' in omega arith;
        numbers = λ n. let p = r.numbers n in let t = sums (bears n) refl in let z : bears n u ≡ is_it n u.number = counts-lives u.stage (is_it n u.number) live' in let h = times n in omega arith;
        passes = let p = r.passes in let t = sums (λ x. lives x.stage) refl in let h = length-append r.joined ((u.number, u.own) ∷ []) in omega arith;
        few = r.few;
        each_pass = each_set (Fits entries fixed caller part r.log r.serving r.given joined) (set s.views id w) other gone
            (λ j x n e l.
            each_set (λ y. Fits entries fixed caller part r.log r.serving r.given joined y) s.views id w
            (λ j' x' n' e' l'. let old = r.each_pass j' x' e' l' in record { seen = old.seen; told = old.told; own = old.own; part_is = old.part_is; turn = old.turn; root = λ i. absurd (apart s r id j' v x' (λ k. n' (sym k)) at e' live l' (i ∙ sym root)) })
            (λ _. record { seen = mine.seen; told = theirs.seen; own = mine.own; part_is = mine.part_is; turn = mine.turn; root = λ _. ((mine.root root).0, ap (λ l. l ++ (u.number, u.own) ∷ []) same-joined) })
            j x e l)
            (λ l. absurd (omega arith));
        calls_kept = λ n h.
            let p = times n in
            dite (ℕ_discrete u.number n)
            (λ same. subst (λ k. calls_of caller k r.log ≡ kept_of k joined) same (theirs.own ∙ sym (kept_of-last u.number r.joined u.own given.1)))
            (λ apart-from. let z : is_it n u.number ≡ 0 = is_it-other n u.number apart-from in r.calls_kept n (omega arith) ∙ sym (kept_of-other n u.number r.joined u.own apart-from));
        no_others = r.no_others;
      }

  -- the root compares what it and another had seen
  pub compares : (slots id : ℕ) (v : V) (c : List (ℕ × Option S)) → v.stage ≡ Away → Allows R slots id (v, c) 0 (λ n. n) (compared (step slots 0 0 0 none) (v, c))
  compares slots id v c away s r long at small =
      let w : V = after_compare v in
      let live : lives v.stage ≡ 1 = ap lives away in
      let mine = r.each_pass id v at live in
      let most = longer_begins v.seen v.told r.log mine.seen mine.told in
      let turns = total-same (λ (x : V). has_turn x.stage) s.views id v w at refl in (
        w,
        keeps,
        tt,
        record {
          log = r.log;
          ticket = r.ticket;
          serving = r.serving;
          given = r.given;
          joined = r.joined;
          words = ap (λ ws. slice_set ws 0 (slice_index ws 0)) r.words;
          home = subst (Housed entries fixed caller part r.log s.homes) (sym turns) r.home;
          tickets = λ k. total-same (λ (x : V). has_ticket k x.stage) s.views id v w at refl ∙ r.tickets k;
          queue = let q = r.queue in let t = total-same (λ (x : V). waits x.stage) s.views id v w at refl in omega arith;
          numbers = λ n. let p = r.numbers n in let t = total-same (bears n) s.views id v w at refl in omega arith;
          passes = let p = r.passes in let t = total-same (λ (x : V). lives x.stage) s.views id v w at refl in omega arith;
          few = r.few;
          each_pass = each_set (Fits entries fixed caller part r.log r.serving r.given r.joined) s.views id w
              (λ j x n e l. r.each_pass j x e l)
              (λ _. record { seen = most.2; told = prefix_nil r.log; own = mine.own; part_is = mine.part_is; root = mine.root; turn = λ h. let z : has_turn v.stage ≡ 0 = ap has_turn away in absurd (omega arith) });
          calls_kept = r.calls_kept;
          no_others = r.no_others;
        },
        (refl, most.0, most.1),
      )

  -- before any step
  pub begins : (x : S) → entries x ≡ [] → fixed x ≡ part → R (opening (0 ∷ 0 ∷ 0 ∷ []) (Some x ∷ []) (root_view part))
  begins x none-yet is = record {
    log = [];
    ticket = 0;
    serving = 0;
    given = 1;
    joined = [];
    words = refl;
    home = inl (x, refl, none-yet, is, refl);
    tickets = λ k. let o = once_none 0 k in omega arith;
    queue = refl;
    numbers = λ n. let o = once_longer 0 0 n (omega arith) in let z = once_none 0 n in omega arith;
    passes = refl;
    few = omega arith;
    each_pass = λ j v e l. one j v e;
    calls_kept = λ n h. absurd (omega arith);
    no_others = λ n h. refl;
  }
    where
      one : (j : ℕ) (v : V) → get_elem? (root_view part ∷ []) j ≡ some v → Fits entries fixed caller part [] 0 1 [] v
      one zero v e = subst (Fits entries fixed caller part [] 0 1 []) (some-injective (root_view part) v e) (record { seen = prefix_nil []; told = prefix_nil []; own = refl; part_is = refl; root = λ _. (refl, refl); turn = λ h. absurd (omega arith) })
      one (suc j) v e = absurd (some-ne-none v (sym e))

  -- once every pass was joined, the state is at home, with what the root and the joined passes added
  pub ends : (id : ℕ) (v : V) (ws : List ℕ) (xs : List (Option S)) → v.stage ≡ Away → v.number ≡ 0 → length v.joined + 1 ≡ v.given → Final (Seen R id v) ws xs
      → (x : S) × (get_elem? xs 0 ≡ some (Some x)) × IsPrefix v.seen (entries x) × (v.fixed ≡ Some (fixed x)) × ((n : ℕ) → calls_of caller n (entries x) ≡ kept_of n ((0, v.own) ∷ v.joined))
  ends id v ws xs away root all (s, seen, words, long, values) =
      let r : R s = seen.0 in
      let at = seen.1 in
      let live : lives v.stage ≡ 1 = ap lives away in
      let mine = r.each_pass id v at live in
      let given = given_to s r id v at live in
      let counted : v.given ≡ r.given = (mine.root root).0 in
      let same-joined : v.joined ≡ r.joined = (mine.root root).1 in
      let passes = r.passes in
      let same-length : length v.joined ≡ length r.joined = ap length same-joined in
      let alone : total (λ (x : V). lives x.stage) s.views ≡ 1 = omega arith in
      let turns = total_le_at (λ (x : V). has_turn x.stage) (λ (x : V). lives x.stage) s.views id v (λ j x _. turn_le_lives x.stage) at in
      let no-turn : has_turn v.stage ≡ 0 = ap has_turn away in
      let none-else : (n : ℕ) → n ≢ 0 → total (bears n) s.views ≡ 0 = λ n ne.
      let most = total_le_at (bears n) (λ (x : V). lives x.stage) s.views id v (λ j x _. bears_le_lives n x) at in
      let own : bears n v ≡ 0 = counts-lives v.stage (is_it n v.number) live ∙ is_it-other n v.number (λ same. ne (sym same ∙ root)) in omega arith in
      let calls : (n : ℕ) → calls_of caller n r.log ≡ kept_of n ((0, v.own) ∷ r.joined) = λ n.
      dite (ℕ_discrete 0 n)
      (λ is-root. subst (λ k. calls_of caller k r.log ≡ kept_of k ((0, v.own) ∷ r.joined)) is-root
      (subst (λ k. calls_of caller k r.log ≡ v.own) root mine.own
      ∙ sym (ap (λ l. v.own ++ l) (kept_of-none 0 r.joined (subst (λ k. times_joined k r.joined ≡ 0) root given.1)) ∙ append-nil v.own)))
      (λ ne.
      let p = r.numbers n in
      let none-here = none-else n (λ z. ne (sym z)) in
      let skip : kept_of n ((0, v.own) ∷ r.joined) ≡ kept_of n r.joined = ap (λ (b : Bool). (if b then v.own else []) ++ kept_of n r.joined) (ne_eqb 0 n ne) in
      dite (dec_le r.given n)
      (λ (above : r.given ≤ n). r.no_others n above ∙ sym (skip ∙ kept_of-none n r.joined (let o = once_only 0 r.given n in times_none n r.given (times_joined n r.joined) above (omega arith))))
      (λ (below : ¬ (r.given ≤ n)). let o = once_inside 0 r.given n (omega arith) (lt_of_not-le below) in r.calls_kept n (omega arith) ∙ sym skip)) in
      ⊎_elim
      (λ (h : (x : S) × (s.homes ≡ some (Some x) ∷ []) × (entries x ≡ r.log) × (fixed x ≡ part) × (total (λ (u : V). has_turn u.stage) s.views ≡ 0)). (
        h.0,
        values 0 (Some h.0) (ap (λ hs. get_elem? hs 0) h.1),
        subst (λ l. IsPrefix v.seen l) (sym h.2) mine.seen,
        mine.part_is ∙ ap Some (sym h.3),
        λ n. ap (calls_of caller n) h.2 ∙ (calls n ∙ ap (λ l. kept_of n ((0, v.own) ∷ l)) (sym same-joined)),
      ))
      (λ (h : (s.homes ≡ none ∷ []) × (total (λ (u : V). has_turn u.stage) s.views ≡ 1)). absurd (let z = h.1 in omega arith))
      r.home
