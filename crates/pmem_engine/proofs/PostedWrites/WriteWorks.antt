-- The exact work of a write's parts together, up to the seal of its own line.
use Rattle.std.proofs.Common.{ℕ, ◌≡◌, ◌≤◌, ◌+◌, ◌++◌, Bool, true, false, cond, List, length, Ok, refl, sym, ap, ap₂, subst, subst₂, ◌∙◌, arith}
use Rattle.std.proofs.lemmas.List.{length-append}
use Rattle.std.proofs.lemmas.List.Sums.{sum_by-append}
use Rattle.pmem_base.specs.declared.lines.Line.{Line}
use Rattle.pmem_base.specs.declared.lines.Ctr.{Ctr}
use Rattle.pmem_base.specs.declared.commands.Posted.{Posted}
use Rattle.pmem_base.specs.declared.answers.Mark.{Mark}
use Rattle.pmem_base.specs.Layout as layout
use Rattle.pmem_base.specs.Layout.{page_of}
use Rattle.pmem_base.specs.Shape.{Shape, named_levels}
use Rattle.meta_cache.specs.Banks.{Banks}
use Rattle.commit_regs.specs.Groups.{redone_told}
use Rattle.meta_path.specs.Work.{told_line}
use Rattle.meta_path.specs.Naming.{naming_writes}
use Rattle.suite.specs.Setup.{Setup}
use Rattle.plain_model.specs.State.{Memory}
use Rattle.plain_model.specs.Bounds.{is_seal, seal_count, begin_count}
use Rattle.pmem_engine.specs.Engine.{ChipState}
use Rattle.pmem_engine.specs.Parts.{Parts}
use Rattle.pmem_engine.specs.CallFacts.{Work, then_work, IsWork, fetch_work, unseal_work, reseal_work, naming_work, begin_work, path_spilled, IsPathFetchedInto, KeepsButPath, KeepsOtherMeta, unsealed_count, path_unnamed}
use Rattle.pmem_engine.specs.Inner.{HasFetched, HasNamedPath}
use Rattle.pmem_engine.specs.Writing.{HasMadePlain}
use Rattle.pmem_engine.proofs.CallEnds.ExactWork.{work_then, fetch_worked}
use Rattle.pmem_engine.proofs.PostedWrites.WriteFinishes.{HasFinishedSome}
use Rattle.pmem_engine.proofs.PostedWrites.WriteSteps.{begin_asked}
use Rattle.pmem_engine.proofs.PostedWrites.WriteBegins.{HasBegunSome}

-- the fetch and the unsealing; the lines sealed anew; the naming
abbrev pub plain_work : Shape → Posted → Parts → Work
plain_work g write old = then_work (fetch_work g old (page_of write.at)) (unseal_work (unsealed_count write))

abbrev pub named_work : Shape → Posted → ℕ → Parts → Banks → Work
named_work g write resealed old fetched =
    then_work (then_work (plain_work g write old) (reseal_work resealed))
    (naming_work (path_unnamed g old (page_of write.at) fetched))

-- what a write does before its own seal, by the marks made so far and the cache once the path is fetched
abbrev pub work_before : Shape → Posted → List Mark → Parts → Banks → Work
work_before g write before old fetched =
    then_work (named_work g write (seal_count before) old fetched) (begin_work g (begin_count before))

pub record IsWriteWorkBefore (setup : Setup) (write : Posted) (before : List Mark) (old new : Parts) : Type 0 where
  pub fetched : Banks
  pub path_fetched : IsPathFetchedInto setup.shape (page_of write.at) old fetched
  pub kept : KeepsButPath setup.shape (page_of write.at) fetched new.engine.cache
  pub lines :
      KeepsOtherMeta setup.shape (page_of write.at) (redone_told (path_spilled setup.shape old (page_of write.at)) old.device.lines)
      new.device.lines
  pub few_seals : seal_count before ≤ length before
  pub work : IsWork (work_before setup.shape write before old fetched) old new

module _ (setup : Setup) (write : Posted) (old p1 p2 p3 p4 p5 : Parts) (plain : Line) (overflows : Bool) (front : Memory → List Mark)
    (ctr : Ctr) (fetched : HasFetched setup (page_of write.at) old p1 (Ok tt)) (made_plain : HasMadePlain setup write p1 p2 (Ok plain))
    (some3 : HasFinishedSome setup write.at front p2 p3 (Ok tt)) (mirror3 : p3.engine.mirror ≡ old.engine.mirror)
    (named : HasNamedPath setup (page_of write.at) p3 p4 (Ok tt))
    (some5 : HasBegunSome setup write.at (begin_asked overflows (page_of write.at)) ctr p4 p5 (Ok tt)) where
  abbrev page : ℕ
  page = page_of write.at

  abbrev g : Shape
  g = setup.shape

  abbrev resealed : ℕ
  resealed = length some3.made

  -- the cache once the path is fetched, which is as it was until the naming is done
  abbrev banks : Banks
  banks = p1.engine.cache

  cache3 : p3.engine.cache ≡ banks
  cache3 = ap (λ (e : ChipState). e.cache) (some3.engine ∙ made_plain.engine)

  work2 : IsWork (plain_work g write old) old p2
  work2 =
      work_then (fetch_work g old page) (unseal_work (unsealed_count write)) old p1 p2 (fetch_worked setup page old p1 fetched)
      (made_plain.work refl)

  work3 : IsWork (then_work (plain_work g write old) (reseal_work resealed)) old p3
  work3 = work_then (plain_work g write old) (reseal_work resealed) old p2 p3 work2 (some3.work refl)

  naming : IsWork (naming_work (path_unnamed g old page banks)) p3 p4
  naming =
      subst₂ (λ cache mirror. IsWork (naming_work (length (naming_writes g cache page mirror (named_levels g)))) p3 p4) cache3 mirror3
      (named.work refl)

  work4 : IsWork (named_work g write resealed old banks) old p4
  work4 =
      work_then (then_work (plain_work g write old) (reseal_work resealed)) (naming_work (path_unnamed g old page banks)) old p3 p4
      work3 naming

  -- the marks made before the seal are the lines sealed anew, and a begin or none
  abbrev before : List Mark
  before = some3.made ++ some5.made

  seals_before : seal_count before ≡ resealed
  seals_before =
      ap (λ begin. seal_count (some3.made ++ begin)) some5.marks
      ∙ sum_by-append (λ m. cond (is_seal m) 1 0) some3.made (begin_asked overflows page)
      ∙ ap₂ (λ n k. n + k) (some3.made_seals refl) (no_seal overflows)
      ∙ plus_none resealed
    where
      no_seal : (b : Bool) → seal_count (begin_asked b page) ≡ 0
      no_seal true = refl
      no_seal false = refl

      plus_none : (n : ℕ) → n + 0 ≡ n
      plus_none n = omega arith

  marks_before : length before ≡ resealed + length (begin_asked overflows page)
  marks_before = length-append some3.made some5.made ∙ ap (λ begin. resealed + length begin) some5.marks

  same_before : then_work (named_work g write resealed old banks) (begin_work g (length (begin_asked overflows page)))
      ≡ work_before g write before old banks
  same_before =
      ap₂ (λ sealed begun. then_work (named_work g write sealed old banks) (begin_work g begun)) (sym seals_before)
      (omega (arith, seals_before, marks_before))

  pub worked_before : IsWriteWorkBefore setup write before old p5
  worked_before =
      record {
        fetched = banks;
        path_fetched = (fetched.work refl).cache;
        kept = subst (λ cache. KeepsButPath g page cache p5.engine.cache) (named.cache ∙ cache3) some5.cache;
        lines =
            λ x within apart.
            some5.meta_lines refl x within apart
            ∙ named.meta_lines refl x within
            ∙ some3.meta_lines refl x within
            ∙ ap (λ told. told_line told (layout.meta_line g x)) (made_plain.lines ∙ (fetched.work refl).work.lines);
        few_seals = omega (arith, seals_before, marks_before);
        work =
            subst (λ work. IsWork work old p5) same_before
            (work_then (named_work g write resealed old banks) (begin_work g (length (begin_asked overflows page))) old p4 p5 work4
            (some5.work refl));
      }
