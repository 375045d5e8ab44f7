-- The reply to a command that changes nothing is one, but for `chain`.
use Rattle.std.proofs.Common.{◌≡◌, ◌∙◌, ℕ, List, [], ◌∷◌, ◌++◌, length, Option, Some, None, Result, Ok, Err, refl, sym, ap, subst}
use Rattle.std.specs.Prelude.{Bool, map, slice_get, decimal}
use Rattle.std.specs.List.{AllByRecursion}
use Rattle.std.specs.List.Sorted.{IsStrictlyIncreasing}
use Rattle.hd_terms.specs.declared.ClassRow.{ClassRow}
use Rattle.hd_terms.specs.declared.Event.{Event}
use Rattle.hd_terms.specs.declared.Group.{Group}
use Rattle.hd_terms.specs.declared.MovedRow.{MovedRow}
use Rattle.hd_terms.specs.declared.Strength.{Strength}
use Rattle.hd_lines.specs.declared.commands.Command.{Command}
use Rattle.hd_lines.specs.declared.commands.Command.TheVariants as commands
use Rattle.hd_lines.specs.declared.commands.Query.{Query}
use Rattle.hd_lines.specs.declared.commands.Query.TheVariants as queries
use Rattle.hd_lines.specs.declared.commands.LineFault.{LineFault}
use Rattle.hd_terms.specs.Dump.{Dump}
use Rattle.hd_terms.specs.Edges.{index_of}
use Rattle.hd_terms.specs.EditedDump.{standing}
use Rattle.hd_terms.specs.Fell.{Falls, FellCount}
use Rattle.hd_terms.specs.Listed.{AreIdsOf, group_key}
use Rattle.hd_lines.specs.Memory.{Memory}
use Rattle.hd_lines.specs.Names.{group_text, group_name}
use Rattle.hd_lines.specs.Replies.{Answer, answer_text, answered, class_line, id_line, object_line, strength_name, AnswersStrength, AnswersObject}
use Rattle.hd_lines.specs.Replies.{AnswersClasses, AnswersIds, AnswersFell, AnswersFreed, AnswersMoved, AnswersTop, IsAnswer, IsFreed, moved_line, total_line}
use Rattle.hd_lines.specs.Replies.{RefusesPrivate, RefusesBack, RepliesTo, RepliesDone, event_line}
use Rattle.hd_terms.specs.Strengths.{HasStrength}
use Rattle.hd_terms.specs.Totals.{IsMember, IsGroupTotal}
use Rattle.hd_terms.proofs.OneStrength.{one_strength}
use Rattle.hd_laws.specs.Plain.{AsksNoChain}
use Rattle.hd_laws.proofs.OneList.{one_list, rises_numbers, rises_keys, same_head, same_tail, no_items}
use Rattle.hd_laws.proofs.OneFound.{one_found}
use Rattle.hd_laws.proofs.OneMoved.{one_moved}
use Rattle.hd_laws.proofs.OneRanking.{one_top}
use Rattle.hd_laws.proofs.OneStat.{same_number, same_count, same_bytes}

-- the IDs of the objects that are meant, ascending
one_ids : (dump : Dump) (IsMeant : ℕ → Type 0) (ids others : List ℕ) → AreIdsOf dump IsMeant ids → AreIdsOf dump IsMeant others → ids ≡ others
one_ids dump IsMeant ids others a b =
    one_list (λ n. n) ids others (rises_numbers ids a.ascending) (rises_numbers others b.ascending)
    (λ z at. (b.meant z).1 ((a.meant z).0 at))
    (λ z at. (a.meant z).1 ((b.meant z).0 at))

-- how many objects fell
pub one_fell : (dump : Dump) (before after : List Event) (n k : ℕ) → FellCount dump before after n → FellCount dump before after k → n ≡ k
one_fell dump before after n k a b = a.count ∙ same_number dump (Falls dump before after) a.falls b.falls a.decides b.decides ∙ sym b.count

-- what is answered to an event that the log has taken
pub one_done : (dump : Dump) (before after : List Event) (reply other : List ℕ) → RepliesDone dump before after reply → RepliesDone dump before after other
    → reply ≡ other
one_done dump before after reply other a b =
    a.reply_is
    ∙ ap (λ (n : ℕ). answered (event_line (length before) n a.back ∷ [])) (one_fell dump before after a.fell b.fell a.fell_is b.fell_is)
    ∙ ap (λ (n : ℕ). answered (event_line (length before) b.fell n ∷ [])) (one_fell dump after before a.back b.back a.back_is b.back_is)
    ∙ sym b.reply_is

module _ (dump : Dump) (log : List Event) (s : Strength) where
  -- the line of a row goes by its group
  same_row : (a b : ClassRow) → a.group ≡ b.group → IsGroupTotal dump log a.group s a.count a.bytes → IsGroupTotal dump log b.group s b.count b.bytes
      → class_line dump a ≡ class_line dump b
  same_row a b same t u =
      let moved : IsGroupTotal dump log a.group s b.count b.bytes = subst (λ (g : Group). IsGroupTotal dump log g s b.count b.bytes) (sym same) u in
      let counts = same_count dump (IsMember dump log a.group s) a.count a.bytes b.count b.bytes t moved in
      let bytes = same_bytes dump (IsMember dump log a.group s) a.count a.bytes b.count b.bytes t moved in
      ap (λ (g : Group). group_text g ++ 32 ∷ decimal a.count ++ 32 ∷ decimal a.bytes ++ 32 ∷ group_name dump g) same
      ∙ ap (λ (n : ℕ). group_text b.group ++ 32 ∷ decimal n ++ 32 ∷ decimal a.bytes ++ 32 ∷ group_name dump b.group) counts
      ∙ ap (λ (n : ℕ). group_text b.group ++ 32 ∷ decimal b.count ++ 32 ∷ decimal n ++ 32 ∷ group_name dump b.group) bytes

  same_rows : (rows others : List ClassRow) → AllByRecursion (λ (row : ClassRow). IsGroupTotal dump log row.group s row.count row.bytes) rows
      → AllByRecursion (λ (row : ClassRow). IsGroupTotal dump log row.group s row.count row.bytes) others
      → map (λ (row : ClassRow). row.group) rows ≡ map (λ (row : ClassRow). row.group) others → map (class_line dump) rows ≡ map (class_line dump) others
  same_rows [] [] t u h = refl
  same_rows [] (b ∷ others) t u h = absurd (no_items b.group (map (λ (row : ClassRow). row.group) others) h)
  same_rows (a ∷ more) [] t u h = absurd (no_items a.group (map (λ (row : ClassRow). row.group) more) (sym h))
  same_rows (a ∷ more) (b ∷ others) t u h =
      let first = same_head a.group b.group (map (λ (row : ClassRow). row.group) more) (map (λ (row : ClassRow). row.group) others) h in
      let rest = same_tail a.group b.group (map (λ (row : ClassRow). row.group) more) (map (λ (row : ClassRow). row.group) others) h in
      ap (λ (l : List ℕ). l ∷ map (class_line dump) more) (same_row a b first t.0 u.0)
      ∙ ap (λ (ls : List (List ℕ)). class_line dump b ∷ ls) (same_rows more others t.1 u.1 rest)

  -- the groups of rows rise
  rising : (rows : List ClassRow) → IsStrictlyIncreasing (map (λ (row : ClassRow). group_key row.group) rows)
      → IsStrictlyIncreasing (map group_key (map (λ (row : ClassRow). row.group) rows))
  rising rows h = subst IsStrictlyIncreasing (sym (twice rows)) h
    where
      twice : (rows : List ClassRow) → map group_key (map (λ (row : ClassRow). row.group) rows) ≡ map (λ (row : ClassRow). group_key row.group) rows
      twice [] = refl
      twice (a ∷ more) = ap (λ (ks : List ℕ). group_key a.group ∷ ks) (twice more)

  one_classes : (answer other : Answer) → AnswersClasses dump log s answer → AnswersClasses dump log s other → answer ≡ other
  one_classes answer other (rows, are, is) (others, too, also) =
      let gs = map (λ (row : ClassRow). row.group) rows in
      let hs = map (λ (row : ClassRow). row.group) others in
      let groups : gs ≡ hs = one_list group_key gs hs (rises_keys group_key gs (rising rows are.in_order))
      (rises_keys group_key hs (rising others too.in_order))
      (λ g at. (too.groups g).1 ((are.groups g).0 at))
      (λ g at. (are.groups g).1 ((too.groups g).0 at)) in
      is ∙ ap (λ (ls : List (List ℕ)). Ok ls) (same_rows rows others are.totals too.totals groups) ∙ sym also

module _ (dump : Dump) (log : List Event) where
  strength_of : (o : Option ℕ) (answer other : Answer) → AnswersStrength dump log o answer → AnswersStrength dump log o other → answer ≡ other
  strength_of None answer other a b = a ∙ sym b
  strength_of (Some o) answer other (s, has, is) (t, also, too) =
      is ∙ ap (λ (x : Strength). Ok (strength_name x ∷ [])) (one_strength (standing dump log) o s t has also) ∙ sym too

  object_of : (o : Option ℕ) (answer other : Answer) → AnswersObject dump log o answer → AnswersObject dump log o other → answer ≡ other
  object_of None answer other a b = a ∙ sym b
  object_of (Some o) answer other (s, has, is) (t, also, too) =
      is ∙ ap (λ (x : Strength). Ok (object_line dump o x ∷ [])) (one_strength (standing dump log) o s t has also) ∙ sym too

  module _ (names : Bool) where
    ids_of : (IsMeant : ℕ → Type 0) (answer other : Answer) → AnswersIds dump names (AreIdsOf dump IsMeant) answer
        → AnswersIds dump names (AreIdsOf dump IsMeant) other → answer ≡ other
    ids_of IsMeant answer other (ids, are, is) (others, too, also) =
        is ∙ ap (λ (xs : List ℕ). Ok (map (id_line dump names) xs)) (one_ids dump IsMeant ids others are too) ∙ sym also

    fell_of : (before : Option (List Event)) (answer other : Answer) → AnswersFell dump names log before answer → AnswersFell dump names log before other
        → answer ≡ other
    fell_of None answer other a b = a ∙ sym b
    fell_of (Some before) answer other a b = ids_of (Falls dump before log) answer other a b

  -- what fell
  freed : (before : List Event) (answer other : Answer) → IsFreed dump before log answer → IsFreed dump before log other → answer ≡ other
  freed before answer other a b =
      let Fallen : ℕ → Type 0 = Falls dump before log in
      let counts = same_count dump Fallen a.count a.bytes b.count b.bytes a.total b.total in
      let bytes = same_bytes dump Fallen a.count a.bytes b.count b.bytes a.total b.total in
      a.lines
      ∙ ap (λ (n : ℕ). Ok (total_line n a.bytes ∷ map (class_line dump) a.rows)) counts
      ∙ ap (λ (n : ℕ). Ok (total_line b.count n ∷ map (class_line dump) a.rows)) bytes
      ∙ ap (λ (rows : List ClassRow). Ok (total_line b.count b.bytes ∷ map (class_line dump) rows)) (one_top dump Fallen a.rows b.rows a.groups b.groups)
      ∙ sym b.lines

  freed_of : (before : Option (List Event)) (answer other : Answer) → AnswersFreed dump log before answer → AnswersFreed dump log before other → answer ≡ other
  freed_of None answer other a b = a ∙ sym b
  freed_of (Some before) answer other a b = freed before answer other a b

  moved_of : (before : Option (List Event)) (answer other : Answer) → AnswersMoved dump log before answer → AnswersMoved dump log before other → answer ≡ other
  moved_of None answer other a b = a ∙ sym b
  moved_of (Some before) answer other (rows, are, is) (others, too, also) =
      is ∙ ap (λ (rs : List MovedRow). Ok (map moved_line rs)) (one_moved dump before log rows others are too) ∙ sym also

  top_of : (s : Strength) (answer other : Answer) → AnswersTop dump log s answer → AnswersTop dump log s other → answer ≡ other
  top_of s answer other (rows, are, is) (others, too, also) =
      is ∙ ap (λ (rs : List ClassRow). Ok (map (class_line dump) rs)) (one_top dump (λ (o : ℕ). HasStrength (standing dump log) o s) rows others are too)
      ∙ sym also

private_of : (home : Option (List Event)) (reply other : List ℕ) → RefusesPrivate home reply → RefusesPrivate home other → reply ≡ other
private_of None reply other a b = absurd a
private_of (Some home) reply other a b = a ∙ sym b

back_of : (home : Option (List Event)) (reply other : List ℕ) → RefusesBack home reply → RefusesBack home other → reply ≡ other
back_of None reply other a b = a ∙ sym b
back_of (Some home) reply other a b = absurd a

-- no chain is asked for
abbrev IsNoChain : Query → Type 0
IsNoChain query = (id : ℕ) → query ≡ queries.Chain id → ⊥

-- the answer to a query that asks for no chain
one_answer : (dump : Dump) (m : Memory) (text : List ℕ) (query : Query) (answer other : Answer) → IsNoChain query → IsAnswer dump m text query answer
    → IsAnswer dump m text query other → answer ≡ other
one_answer dump m text (queries.Strength id) answer other no_chain a b = strength_of dump m.log (index_of dump.objects id) answer other a b
one_answer dump m text (queries.Chain id) answer other no_chain a b = absurd (no_chain id refl)
one_answer dump m text (queries.Slots id) answer other no_chain a b = a ∙ sym b
one_answer dump m text (queries.Into id) answer other no_chain a b = a ∙ sym b
one_answer dump m text queries.Roots answer other no_chain a b = a ∙ sym b
one_answer dump m text (queries.Classes s) answer other no_chain a b = one_classes dump m.log s answer other a b
one_answer dump m text (queries.Members group s) answer other no_chain a b = ids_of dump m.log m.names (IsMember dump m.log group s) answer other a b
one_answer dump m text (queries.Fell k) answer other no_chain a b = fell_of dump m.log m.names (slice_get m.marks k) answer other a b
one_answer dump m text queries.Events answer other no_chain a b = a ∙ sym b
one_answer dump m text (queries.Object id) answer other no_chain a b = object_of dump m.log (index_of dump.objects id) answer other a b
one_answer dump m text (queries.Top s) answer other no_chain a b = top_of dump m.log s answer other a b
one_answer dump m text (queries.Freed k) answer other no_chain a b = freed_of dump m.log (slice_get m.marks k) answer other a b
one_answer dump m text (queries.Moved k) answer other no_chain a b = moved_of dump m.log (slice_get m.marks k) answer other a b
one_answer dump m text queries.Find answer other no_chain a b = one_found dump m.log text answer other a b

-- what is answered to a command that changes nothing and asks for no chain
pub one_reply : (dump : Dump) (m : Memory) (text : List ℕ) (r : Result Command LineFault) (reply other : List ℕ) → AsksNoChain r → RepliesTo dump m text r reply
    → RepliesTo dump m text r other → reply ≡ other
one_reply dump m text (Err f) reply other no_chain a b = a ∙ sym b
one_reply dump m text (Ok (commands.Ask most query)) reply other no_chain (answer, are, is) (others, too, also) =
    let asked : IsNoChain query = λ id same. no_chain most id (ap (λ (q : Query). Ok (commands.Ask most q)) same) in
    is ∙ ap (answer_text most) (one_answer dump m text query answer others asked are too) ∙ sym also
one_reply dump m text (Ok (commands.Names on)) reply other no_chain a b = absurd a
one_reply dump m text (Ok (commands.Edit edit)) reply other no_chain a b = absurd a
one_reply dump m text (Ok (commands.Undo number)) reply other no_chain a b = absurd a
one_reply dump m text (Ok commands.Mark) reply other no_chain a b = a.reply_is ∙ sym b.reply_is
one_reply dump m text (Ok commands.Private) reply other no_chain a b = private_of m.home reply other a b
one_reply dump m text (Ok commands.Back) reply other no_chain a b = back_of m.home reply other a b
one_reply dump m text (Ok commands.Quit) reply other no_chain a b = a ∙ sym b
