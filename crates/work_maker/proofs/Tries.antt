-- The first numbers of a seed and a made source, written by hand and computed.
use Rattle.std.proofs.Common.{◌≡◌, [], ◌∷◌, codes, refl}
use Rattle.std.specs.Fmt.{digits}
use Rattle.work_maker.specs.MadeSource.{number_of, lines_text, made_lines, made_source}

first_number : number_of 1 1 ≡ 16838
first_number = refl

second_number : number_of 1 2 ≡ 5758
second_number = refl

third_number : number_of 1 3 ≡ 10113
third_number = refl

fourth_number : number_of 1 4 ≡ 17515
fourth_number = refl

a_source : made_source 1 2 ≡ codes "program made\ninteger :: u(2), edge[*], me, left, k, i, s, t\nme = this_image()\nleft = me - 1\nif (left == 0) left = num_images()\nu(1) = 838\nu(2) = 758\ndo k = 1, 10\nedge = u(2)\nsync all\nt = edge[left]\nsync all\ndo i = 2, 2, -1\nu(i) = u(i - 1)\nend do\nu(1) = t\nend do\ns = 0\ndo i = 1, 2\ns = s + u(i)\nend do\ncall co_sum(s)\nif (me == 1) print *, s\nend program made\n"
unfolding digits lines_text
a_source = refl
