-- Every example of the list holds: each is computed. Assumes nothing.
use mathlib.Core.Path.{refl}
use lib.Ieee.{size, to_bits, of_bits, add, sub, mul, div, neg, lt, le}
use Rattle.floats.specs.Methods.{abs_of, clamp_unit_of}
use Rattle.floats.specs.Words.{high_word, low_word}
use Rattle.floats.specs.Units.{count}
use Rattle.root.specs.Root.{floor_root, root_bits, root_of}
use Rattle.fdlibm.specs.Ints.{◌<ˢ◌, words_are}
use Rattle.fdlibm.specs.Acos.{acos_of}
use Rattle.fdlibm.specs.Asinh.{asinh_of}
use Rattle.lists.specs.Lists.{keep, gather, upto, combos, among, within}
use Rattle.lists.specs.Keys.{eqs, find, meet, firsts}
use Rattle.lists.specs.Rows.{rows}
use Rattle.lists.specs.Sorting.{insert, sort}
use Rattle.complex.specs.Complex.{met_faces, faces, holding, tri_to_pents}
use Rattle.complex.specs.Builder.{sorted_pents, too_large, repeats, offence, is_short, check_of, counts_of}
use Rattle.geometry.specs.Determinant.{table, at, skip, minor, sign, det3, expand, det4, det5, cofactor}
use Rattle.geometry.specs.CayleyMenger.{cm}
use Rattle.lorentzian.specs.Triangle.{area16, area_sq, area_sq_grad}
use Rattle.lorentzian.specs.Dihedral.{ratio_of, of_ratio, of_mixed, compute_dihedral, dihedral_by_root, dihedral_by}
use Rattle.examples.specs.Examples.{AllHold, examples}

pub all_hold : AllHold examples
unfolding size to_bits of_bits add sub mul div neg lt le abs_of clamp_unit_of high_word low_word count floor_root root_bits root_of ◌<ˢ◌ words_are acos_of asinh_of keep gather upto combos among within eqs find meet firsts rows insert sort met_faces faces holding tri_to_pents sorted_pents too_large repeats offence is_short check_of counts_of table at skip minor sign det3 expand det4 det5 cofactor cm area16 area_sq area_sq_grad ratio_of of_ratio of_mixed compute_dihedral dihedral_by_root dihedral_by
all_hold = (refl, (refl, (refl, (refl, (refl, (refl, (refl, (refl, (refl, (refl, (refl, (refl, (refl, (refl, (refl, (refl, (refl, (refl, (refl, (refl, (refl, (refl, tt))))))))))))))))))))))
