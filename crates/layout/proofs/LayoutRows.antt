-- Sizes, addresses, names in words and faults of names, computed outside this repository.
use Rattle.std.proofs.Common.{◌≡◌, [], ◌∷◌, ◌++◌, codes, refl, replicate, Some, None}
use Rattle.layout.specs.Geometry.{inodes_of, inode_pages_of, descriptor_pages_of, data_pages_of, slots_of, page_of_slot, inode_word_of, descriptor_word_of, slot_word_of, page_word_of}
use Rattle.layout.specs.Superblock.{head_of}
use Rattle.layout.specs.Name.{words_of_name, padded, words_of, word_of, name_fault, name_in_words}
use Rattle.layout.specs.declared.name.NameFault.TheVariants.{Bad, TooLong}

-- ---- how many inodes and data pages so many pages have, and where some of their words are

places_of_16_pages : (inodes_of 16 ∷ data_pages_of 16 ∷ inode_word_of 4 3 ∷ descriptor_word_of 16 6 2 ∷ slot_word_of 16 77 7 ∷ page_word_of 16 10 0 ∷ []) ≡ (4 ∷ 13 ∷ 563 ∷ 1074 ∷ 2775 ∷ 6656 ∷ [])
unfolding data_pages_of inode_word_of descriptor_word_of slot_word_of page_word_of
places_of_16_pages = refl

places_of_17_pages : (inodes_of 17 ∷ data_pages_of 17 ∷ inode_word_of 2 3 ∷ descriptor_word_of 17 11 0 ∷ slot_word_of 17 343 2 ∷ page_word_of 17 2 0 ∷ []) ≡ (4 ∷ 14 ∷ 531 ∷ 1112 ∷ 7026 ∷ 2560 ∷ [])
unfolding data_pages_of inode_word_of descriptor_word_of slot_word_of page_word_of
places_of_17_pages = refl

places_of_31_pages : (inodes_of 31 ∷ data_pages_of 31 ∷ inode_word_of 7 0 ∷ descriptor_word_of 31 9 0 ∷ slot_word_of 31 843 8 ∷ page_word_of 31 15 0 ∷ []) ≡ (7 ∷ 28 ∷ 608 ∷ 1096 ∷ 15032 ∷ 9216 ∷ [])
unfolding data_pages_of inode_word_of descriptor_word_of slot_word_of page_word_of
places_of_31_pages = refl

places_of_32_pages : (inodes_of 32 ∷ data_pages_of 32 ∷ inode_word_of 7 3 ∷ descriptor_word_of 32 12 2 ∷ slot_word_of 32 820 14 ∷ page_word_of 32 4 0 ∷ []) ≡ (8 ∷ 29 ∷ 611 ∷ 1122 ∷ 14670 ∷ 3584 ∷ [])
unfolding data_pages_of inode_word_of descriptor_word_of slot_word_of page_word_of
places_of_32_pages = refl

places_of_63_pages : (inodes_of 63 ∷ data_pages_of 63 ∷ inode_word_of 15 2 ∷ descriptor_word_of 63 6 0 ∷ slot_word_of 63 278 15 ∷ page_word_of 63 13 0 ∷ []) ≡ (15 ∷ 60 ∷ 738 ∷ 1072 ∷ 5999 ∷ 8192 ∷ [])
unfolding data_pages_of inode_word_of descriptor_word_of slot_word_of page_word_of
places_of_63_pages = refl

places_of_64_pages : (inodes_of 64 ∷ data_pages_of 64 ∷ inode_word_of 9 3 ∷ descriptor_word_of 64 49 2 ∷ slot_word_of 64 1751 9 ∷ page_word_of 64 26 0 ∷ []) ≡ (16 ∷ 61 ∷ 643 ∷ 1418 ∷ 29561 ∷ 14848 ∷ [])
unfolding data_pages_of inode_word_of descriptor_word_of slot_word_of page_word_of
places_of_64_pages = refl

places_of_65_pages : (inodes_of 65 ∷ data_pages_of 65 ∷ inode_word_of 13 2 ∷ descriptor_word_of 65 34 2 ∷ slot_word_of 65 834 7 ∷ page_word_of 65 57 0 ∷ []) ≡ (16 ∷ 61 ∷ 706 ∷ 1298 ∷ 15399 ∷ 31232 ∷ [])
unfolding data_pages_of inode_word_of descriptor_word_of slot_word_of page_word_of
places_of_65_pages = refl

places_of_127_pages : (inodes_of 127 ∷ data_pages_of 127 ∷ inode_word_of 11 0 ∷ descriptor_word_of 127 109 1 ∷ slot_word_of 127 2481 5 ∷ page_word_of 127 89 0 ∷ []) ≡ (31 ∷ 123 ∷ 672 ∷ 1897 ∷ 41749 ∷ 47616 ∷ [])
unfolding data_pages_of inode_word_of descriptor_word_of slot_word_of page_word_of
places_of_127_pages = refl

places_of_128_pages : (inodes_of 128 ∷ data_pages_of 128 ∷ inode_word_of 21 0 ∷ descriptor_word_of 128 91 2 ∷ slot_word_of 128 864 8 ∷ page_word_of 128 36 0 ∷ []) ≡ (32 ∷ 124 ∷ 832 ∷ 1754 ∷ 15880 ∷ 20480 ∷ [])
unfolding data_pages_of inode_word_of descriptor_word_of slot_word_of page_word_of
places_of_128_pages = refl

places_of_129_pages : (inodes_of 129 ∷ data_pages_of 129 ∷ inode_word_of 8 0 ∷ descriptor_word_of 129 61 2 ∷ slot_word_of 129 1980 2 ∷ page_word_of 129 44 0 ∷ []) ≡ (32 ∷ 124 ∷ 624 ∷ 1514 ∷ 34242 ∷ 25088 ∷ [])
unfolding data_pages_of inode_word_of descriptor_word_of slot_word_of page_word_of
places_of_129_pages = refl

places_of_131_pages : (inodes_of 131 ∷ data_pages_of 131 ∷ inode_word_of 5 3 ∷ descriptor_word_of 131 114 0 ∷ slot_word_of 131 82 9 ∷ page_word_of 131 54 0 ∷ []) ≡ (32 ∷ 126 ∷ 579 ∷ 1936 ∷ 3881 ∷ 30208 ∷ [])
unfolding data_pages_of inode_word_of descriptor_word_of slot_word_of page_word_of
places_of_131_pages = refl

places_of_132_pages : (inodes_of 132 ∷ data_pages_of 132 ∷ inode_word_of 27 0 ∷ descriptor_word_of 132 5 2 ∷ slot_word_of 132 2517 1 ∷ page_word_of 132 48 0 ∷ []) ≡ (33 ∷ 126 ∷ 928 ∷ 1578 ∷ 43345 ∷ 27648 ∷ [])
unfolding data_pages_of inode_word_of descriptor_word_of slot_word_of page_word_of
places_of_132_pages = refl

places_of_133_pages : (inodes_of 133 ∷ data_pages_of 133 ∷ inode_word_of 22 2 ∷ descriptor_word_of 133 64 0 ∷ slot_word_of 133 147 9 ∷ page_word_of 133 0 0 ∷ []) ≡ (33 ∷ 127 ∷ 850 ∷ 2048 ∷ 5433 ∷ 3072 ∷ [])
unfolding data_pages_of inode_word_of descriptor_word_of slot_word_of page_word_of
places_of_133_pages = refl

places_of_255_pages : (inodes_of 255 ∷ data_pages_of 255 ∷ inode_word_of 5 0 ∷ descriptor_word_of 255 153 2 ∷ slot_word_of 255 257 6 ∷ page_word_of 255 104 0 ∷ []) ≡ (63 ∷ 248 ∷ 576 ∷ 2762 ∷ 7702 ∷ 56832 ∷ [])
unfolding data_pages_of inode_word_of descriptor_word_of slot_word_of page_word_of
places_of_255_pages = refl

places_of_256_pages : (inodes_of 256 ∷ data_pages_of 256 ∷ inode_word_of 38 2 ∷ descriptor_word_of 256 39 2 ∷ slot_word_of 256 347 10 ∷ page_word_of 256 80 0 ∷ []) ≡ (64 ∷ 249 ∷ 1106 ∷ 1850 ∷ 9146 ∷ 44544 ∷ [])
unfolding data_pages_of inode_word_of descriptor_word_of slot_word_of page_word_of
places_of_256_pages = refl

places_of_257_pages : (inodes_of 257 ∷ data_pages_of 257 ∷ inode_word_of 47 1 ∷ descriptor_word_of 257 229 1 ∷ slot_word_of 257 3086 14 ∷ page_word_of 257 222 0 ∷ []) ≡ (64 ∷ 249 ∷ 1249 ∷ 3369 ∷ 53486 ∷ 117760 ∷ [])
unfolding data_pages_of inode_word_of descriptor_word_of slot_word_of page_word_of
places_of_257_pages = refl

places_of_4095_pages : (inodes_of 4095 ∷ data_pages_of 4095 ∷ inode_word_of 533 3 ∷ descriptor_word_of 4095 2637 2 ∷ slot_word_of 4095 89256 3 ∷ page_word_of 4095 2540 0 ∷ []) ≡ (1023 ∷ 3998 ∷ 9027 ∷ 37994 ∷ 1477763 ∷ 1350144 ∷ [])
unfolding data_pages_of inode_word_of descriptor_word_of slot_word_of page_word_of
places_of_4095_pages = refl

places_of_4096_pages : (inodes_of 4096 ∷ data_pages_of 4096 ∷ inode_word_of 556 3 ∷ descriptor_word_of 4096 2598 2 ∷ slot_word_of 4096 93797 7 ∷ page_word_of 4096 3835 0 ∷ []) ≡ (1024 ∷ 3999 ∷ 9395 ∷ 37682 ∷ 1550423 ∷ 2013184 ∷ [])
unfolding data_pages_of inode_word_of descriptor_word_of slot_word_of page_word_of
places_of_4096_pages = refl

places_of_65535_pages : (inodes_of 65535 ∷ data_pages_of 65535 ∷ inode_word_of 4934 3 ∷ descriptor_word_of 65535 16923 2 ∷ slot_word_of 65535 635422 10 ∷ page_word_of 65535 750 0 ∷ []) ≡ (16383 ∷ 63998 ∷ 79443 ∷ 398042 ∷ 10953706 ∷ 1170944 ∷ [])
unfolding data_pages_of inode_word_of descriptor_word_of slot_word_of page_word_of
places_of_65535_pages = refl

places_of_65536_pages : (inodes_of 65536 ∷ data_pages_of 65536 ∷ inode_word_of 13606 2 ∷ descriptor_word_of 65536 1314 1 ∷ slot_word_of 65536 1291421 4 ∷ page_word_of 65536 3937 0 ∷ []) ≡ (16384 ∷ 63999 ∷ 218194 ∷ 273169 ∷ 21449684 ∷ 2802688 ∷ [])
unfolding data_pages_of inode_word_of descriptor_word_of slot_word_of page_word_of
places_of_65536_pages = refl

places_of_15611_pages : (inodes_of 15611 ∷ data_pages_of 15611 ∷ inode_word_of 2595 2 ∷ descriptor_word_of 15611 7639 1 ∷ slot_word_of 15611 356139 11 ∷ page_word_of 15611 9975 0 ∷ []) ≡ (3902 ∷ 15244 ∷ 42018 ∷ 124089 ∷ 5886139 ∷ 5295104 ∷ [])
unfolding data_pages_of inode_word_of descriptor_word_of slot_word_of page_word_of
places_of_15611_pages = refl

places_of_38855_pages : (inodes_of 38855 ∷ data_pages_of 38855 ∷ inode_word_of 4570 3 ∷ descriptor_word_of 38855 1453 2 ∷ slot_word_of 38855 127038 0 ∷ page_word_of 38855 24193 0 ∷ []) ≡ (9713 ∷ 37942 ∷ 73619 ∷ 167786 ∷ 2500064 ∷ 12854272 ∷ [])
unfolding data_pages_of inode_word_of descriptor_word_of slot_word_of page_word_of
places_of_38855_pages = refl

places_of_35682_pages : (inodes_of 35682 ∷ data_pages_of 35682 ∷ inode_word_of 4115 3 ∷ descriptor_word_of 35682 19571 2 ∷ slot_word_of 35682 671141 5 ∷ page_word_of 35682 23852 0 ∷ []) ≡ (8920 ∷ 34844 ∷ 66339 ∷ 299930 ∷ 11167317 ∷ 12641280 ∷ [])
unfolding data_pages_of inode_word_of descriptor_word_of slot_word_of page_word_of
places_of_35682_pages = refl

places_of_8563_pages : (inodes_of 8563 ∷ data_pages_of 8563 ∷ inode_word_of 759 2 ∷ descriptor_word_of 8563 6048 2 ∷ slot_word_of 8563 138483 9 ∷ page_word_of 8563 6179 0 ∷ []) ≡ (2140 ∷ 8361 ∷ 12642 ∷ 83202 ∷ 2319161 ∷ 3267072 ∷ [])
unfolding data_pages_of inode_word_of descriptor_word_of slot_word_of page_word_of
places_of_8563_pages = refl

places_of_24261_pages : (inodes_of 24261 ∷ data_pages_of 24261 ∷ inode_word_of 860 0 ∷ descriptor_word_of 24261 18653 2 ∷ slot_word_of 24261 137804 9 ∷ page_word_of 24261 16384 0 ∷ []) ≡ (6065 ∷ 23690 ∷ 14256 ∷ 247018 ∷ 2497225 ∷ 8680960 ∷ [])
unfolding data_pages_of inode_word_of descriptor_word_of slot_word_of page_word_of
places_of_24261_pages = refl

places_of_60043_pages : (inodes_of 60043 ∷ data_pages_of 60043 ∷ inode_word_of 3647 2 ∷ descriptor_word_of 60043 15643 1 ∷ slot_word_of 60043 392994 13 ∷ page_word_of 60043 42568 0 ∷ []) ≡ (15010 ∷ 58633 ∷ 58850 ∷ 366297 ∷ 7009837 ∷ 22516736 ∷ [])
unfolding data_pages_of inode_word_of descriptor_word_of slot_word_of page_word_of
places_of_60043_pages = refl

places_of_39594_pages : (inodes_of 39594 ∷ data_pages_of 39594 ∷ inode_word_of 1590 0 ∷ descriptor_word_of 39594 21100 1 ∷ slot_word_of 39594 470727 14 ∷ page_word_of 39594 11094 0 ∷ []) ≡ (9898 ∷ 38664 ∷ 25936 ∷ 328033 ∷ 8007806 ∷ 6156288 ∷ [])
unfolding data_pages_of inode_word_of descriptor_word_of slot_word_of page_word_of
places_of_39594_pages = refl

places_of_31083_pages : (inodes_of 31083 ∷ data_pages_of 31083 ∷ inode_word_of 655 2 ∷ descriptor_word_of 31083 24316 2 ∷ slot_word_of 31083 228610 14 ∷ page_word_of 31083 8867 0 ∷ []) ≡ (7770 ∷ 30353 ∷ 10978 ∷ 319458 ∷ 4031534 ∷ 4913664 ∷ [])
unfolding data_pages_of inode_word_of descriptor_word_of slot_word_of page_word_of
places_of_31083_pages = refl

places_of_41023_pages : (inodes_of 41023 ∷ data_pages_of 41023 ∷ inode_word_of 3687 0 ∷ descriptor_word_of 41023 2222 2 ∷ slot_word_of 41023 400144 10 ∷ page_word_of 41023 37672 0 ∷ []) ≡ (10255 ∷ 40060 ∷ 59488 ∷ 182642 ∷ 6895370 ∷ 19781120 ∷ [])
unfolding data_pages_of inode_word_of descriptor_word_of slot_word_of page_word_of
places_of_41023_pages = refl

places_of_38082_pages : (inodes_of 38082 ∷ data_pages_of 38082 ∷ inode_word_of 3008 2 ∷ descriptor_word_of 38082 22289 2 ∷ slot_word_of 38082 179377 11 ∷ page_word_of 38082 8499 0 ∷ []) ≡ (9520 ∷ 37187 ∷ 48626 ∷ 331402 ∷ 3328283 ∷ 4809728 ∷ [])
unfolding data_pages_of inode_word_of descriptor_word_of slot_word_of page_word_of
places_of_38082_pages = refl

places_of_4310_pages : (inodes_of 4310 ∷ data_pages_of 4310 ∷ inode_word_of 863 2 ∷ descriptor_word_of 4310 2221 1 ∷ slot_word_of 4310 90794 13 ∷ page_word_of 4310 2378 0 ∷ []) ≡ (1077 ∷ 4207 ∷ 14306 ∷ 35689 ∷ 1505453 ∷ 1270272 ∷ [])
unfolding data_pages_of inode_word_of descriptor_word_of slot_word_of page_word_of
places_of_4310_pages = refl

places_of_39704_pages : (inodes_of 39704 ∷ data_pages_of 39704 ∷ inode_word_of 6878 3 ∷ descriptor_word_of 39704 2329 1 ∷ slot_word_of 39704 327151 6 ∷ page_word_of 39704 305 0 ∷ []) ≡ (9926 ∷ 38771 ∷ 110547 ∷ 178377 ∷ 5712118 ∷ 633856 ∷ [])
unfolding data_pages_of inode_word_of descriptor_word_of slot_word_of page_word_of
places_of_39704_pages = refl

places_of_878_pages : (inodes_of 878 ∷ data_pages_of 878 ∷ inode_word_of 123 3 ∷ descriptor_word_of 878 572 2 ∷ slot_word_of 878 7277 1 ∷ page_word_of 878 763 0 ∷ []) ≡ (219 ∷ 856 ∷ 2467 ∷ 8674 ∷ 127697 ∷ 401920 ∷ [])
unfolding data_pages_of inode_word_of descriptor_word_of slot_word_of page_word_of
places_of_878_pages = refl

places_of_59576_pages : (inodes_of 59576 ∷ data_pages_of 59576 ∷ inode_word_of 7483 2 ∷ descriptor_word_of 59576 35642 1 ∷ slot_word_of 59576 477031 2 ∷ page_word_of 59576 56228 0 ∷ []) ≡ (14894 ∷ 58178 ∷ 120226 ∷ 524241 ∷ 8348274 ∷ 29504512 ∷ [])
unfolding data_pages_of inode_word_of descriptor_word_of slot_word_of page_word_of
places_of_59576_pages = refl

places_of_54900_pages : (inodes_of 54900 ∷ data_pages_of 54900 ∷ inode_word_of 9645 2 ∷ descriptor_word_of 54900 7864 0 ∷ slot_word_of 54900 94532 1 ∷ page_word_of 54900 52622 0 ∷ []) ≡ (13725 ∷ 53612 ∷ 154818 ∷ 283072 ∷ 2171969 ∷ 27601920 ∷ [])
unfolding data_pages_of inode_word_of descriptor_word_of slot_word_of page_word_of
places_of_54900_pages = refl

places_of_30767_pages : (inodes_of 30767 ∷ data_pages_of 30767 ∷ inode_word_of 5683 1 ∷ descriptor_word_of 30767 29378 1 ∷ slot_word_of 30767 604979 1 ∷ page_word_of 30767 430 0 ∷ []) ≡ (7691 ∷ 30044 ∷ 91425 ∷ 358929 ∷ 10049841 ∷ 590336 ∷ [])
unfolding data_pages_of inode_word_of descriptor_word_of slot_word_of page_word_of
places_of_30767_pages = refl

places_of_17013_pages : (inodes_of 17013 ∷ data_pages_of 17013 ∷ inode_word_of 3941 0 ∷ descriptor_word_of 17013 5630 2 ∷ slot_word_of 17013 314455 7 ∷ page_word_of 17013 650 0 ∷ []) ≡ (4253 ∷ 16613 ∷ 63552 ∷ 113650 ∷ 5236087 ∷ 537600 ∷ [])
unfolding data_pages_of inode_word_of descriptor_word_of slot_word_of page_word_of
places_of_17013_pages = refl

places_of_36112_pages : (inodes_of 36112 ∷ data_pages_of 36112 ∷ inode_word_of 8602 3 ∷ descriptor_word_of 36112 3489 2 ∷ slot_word_of 36112 238209 10 ∷ page_word_of 36112 8218 0 ∷ []) ≡ (9028 ∷ 35263 ∷ 138131 ∷ 173322 ∷ 4246042 ∷ 4642304 ∷ [])
unfolding data_pages_of inode_word_of descriptor_word_of slot_word_of page_word_of
places_of_36112_pages = refl

places_of_15373_pages : (inodes_of 15373 ∷ data_pages_of 15373 ∷ inode_word_of 1035 3 ∷ descriptor_word_of 15373 13296 0 ∷ slot_word_of 15373 184466 7 ∷ page_word_of 15373 3233 0 ∷ []) ≡ (3843 ∷ 15010 ∷ 17059 ∷ 168832 ∷ 3137319 ∷ 1841152 ∷ [])
unfolding data_pages_of inode_word_of descriptor_word_of slot_word_of page_word_of
places_of_15373_pages = refl

places_of_12582_pages : (inodes_of 12582 ∷ data_pages_of 12582 ∷ inode_word_of 501 0 ∷ descriptor_word_of 12582 2806 0 ∷ slot_word_of 12582 143528 4 ∷ page_word_of 12582 122 0 ∷ []) ≡ (3145 ∷ 12285 ∷ 8512 ∷ 73648 ∷ 2448516 ∷ 214528 ∷ [])
unfolding data_pages_of inode_word_of descriptor_word_of slot_word_of page_word_of
places_of_12582_pages = refl

-- ---- inodes, pages of inodes, pages of descriptors, data pages

regions_of_16_pages : (inodes_of 16 ∷ inode_pages_of 16 ∷ descriptor_pages_of 16 ∷ data_pages_of 16 ∷ []) ≡ (4 ∷ 1 ∷ 1 ∷ 13 ∷ [])
unfolding data_pages_of
regions_of_16_pages = refl

regions_of_64_pages : (inodes_of 64 ∷ inode_pages_of 64 ∷ descriptor_pages_of 64 ∷ data_pages_of 64 ∷ []) ≡ (16 ∷ 1 ∷ 1 ∷ 61 ∷ [])
unfolding data_pages_of
regions_of_64_pages = refl

regions_of_132_pages : (inodes_of 132 ∷ inode_pages_of 132 ∷ descriptor_pages_of 132 ∷ data_pages_of 132 ∷ []) ≡ (33 ∷ 2 ∷ 3 ∷ 126 ∷ [])
unfolding data_pages_of
regions_of_132_pages = refl

regions_of_256_pages : (inodes_of 256 ∷ inode_pages_of 256 ∷ descriptor_pages_of 256 ∷ data_pages_of 256 ∷ []) ≡ (64 ∷ 2 ∷ 4 ∷ 249 ∷ [])
unfolding data_pages_of
regions_of_256_pages = refl

regions_of_65536_pages : (inodes_of 65536 ∷ inode_pages_of 65536 ∷ descriptor_pages_of 65536 ∷ data_pages_of 65536 ∷ []) ≡ (16384 ∷ 512 ∷ 1024 ∷ 63999 ∷ [])
unfolding data_pages_of
regions_of_65536_pages = refl

-- ---- the first words

head_of-16_pages : head_of 16 ≡ (0x31304D504C525153 ∷ 1 ∷ 16 ∷ 4 ∷ 13 ∷ [])
unfolding data_pages_of
head_of-16_pages = refl

-- where the first inode, the second, the first descriptor and the first data page begin
beginnings_of_16_pages : (inode_word_of 1 0 ∷ inode_word_of 2 0 ∷ descriptor_word_of 16 0 0 ∷ page_word_of 16 0 0 ∷ slot_word_of 16 0 0 ∷ []) ≡ (512 ∷ 528 ∷ 1024 ∷ 1536 ∷ 1536 ∷ [])
unfolding inode_word_of descriptor_word_of page_word_of slot_word_of
beginnings_of_16_pages = refl

-- slots and the pages that they stand in
pages_of_slots : (slots_of 16 ∷ page_of_slot 0 ∷ page_of_slot 31 ∷ page_of_slot 32 ∷ page_of_slot 415 ∷ []) ≡ (416 ∷ 0 ∷ 0 ∷ 1 ∷ 12 ∷ [])
unfolding slots_of page_of_slot
pages_of_slots = refl

-- ---- names in words

words_of_name-one_letter : words_of_name (codes "a") ≡ (0x610001 ∷ 0 ∷ 0 ∷ 0 ∷ 0 ∷ 0 ∷ 0 ∷ 0 ∷ 0 ∷ 0 ∷ 0 ∷ 0 ∷ 0 ∷ 0 ∷ [])
unfolding padded words_of word_of
words_of_name-one_letter = refl

words_of_name-another_letter : words_of_name (codes "b") ≡ (0x620001 ∷ 0 ∷ 0 ∷ 0 ∷ 0 ∷ 0 ∷ 0 ∷ 0 ∷ 0 ∷ 0 ∷ 0 ∷ 0 ∷ 0 ∷ 0 ∷ [])
unfolding padded words_of word_of
words_of_name-another_letter = refl

words_of_name-two_letters : words_of_name (codes "ab") ≡ (1650524162 ∷ 0 ∷ 0 ∷ 0 ∷ 0 ∷ 0 ∷ 0 ∷ 0 ∷ 0 ∷ 0 ∷ 0 ∷ 0 ∷ 0 ∷ 0 ∷ [])
unfolding padded words_of word_of
words_of_name-two_letters = refl

words_of_name-first_word_full : words_of_name (codes "abcdef") ≡ (7378413942531489798 ∷ 0 ∷ 0 ∷ 0 ∷ 0 ∷ 0 ∷ 0 ∷ 0 ∷ 0 ∷ 0 ∷ 0 ∷ 0 ∷ 0 ∷ 0 ∷ [])
unfolding padded words_of word_of
words_of_name-first_word_full = refl

words_of_name-second_word : words_of_name (codes "abcdefg") ≡ (7378413942531489799 ∷ 103 ∷ 0 ∷ 0 ∷ 0 ∷ 0 ∷ 0 ∷ 0 ∷ 0 ∷ 0 ∷ 0 ∷ 0 ∷ 0 ∷ 0 ∷ [])
unfolding padded words_of word_of
words_of_name-second_word = refl

words_of_name-greatest_bytes : words_of_name ((255 ∷ 255 ∷ 255 ∷ 255 ∷ 255 ∷ 255 ∷ 255 ∷ 255 ∷ [])) ≡ (18446744073709486088 ∷ 65535 ∷ 0 ∷ 0 ∷ 0 ∷ 0 ∷ 0 ∷ 0 ∷ 0 ∷ 0 ∷ 0 ∷ 0 ∷ 0 ∷ 0 ∷ [])
unfolding padded words_of word_of
words_of_name-greatest_bytes = refl

words_of_name-eighty_eight_bytes : words_of_name ((1 ∷ 2 ∷ 3 ∷ 4 ∷ 5 ∷ 6 ∷ 7 ∷ 8 ∷ 9 ∷ 10 ∷ 11 ∷ 12 ∷ 13 ∷ 14 ∷ 15 ∷ 16 ∷ 17 ∷ 18 ∷ 19 ∷ 20 ∷ 21 ∷ 22 ∷ 23 ∷ 24 ∷ 25 ∷ 26 ∷ 27 ∷ 28 ∷ 29 ∷ 30 ∷ 31 ∷ []) ++ codes " !" ++ (34 ∷ []) ++ codes "#$%&'()*+,-.0123456789:;<=>?@ABCDEFGHIJKLMNOPQRSTUVWXY") ≡ (433757350076153944 ∷ 1012478732780767239 ∷ 1591200115485380623 ∷ 2169921498189994007 ∷ 2748642880894607391 ∷ 3327364263599220775 ∷ 3978425819141910832 ∷ 4557147201846524216 ∷ 5135868584551137600 ∷ 5714589967255750984 ∷ 6293311349960364368 ∷ 22872 ∷ 0 ∷ 0 ∷ [])
unfolding padded words_of word_of
words_of_name-eighty_eight_bytes = refl

words_of_name-one_below_longest : words_of_name (replicate 109 110) ≡ (7957419012188405869 ∷ 7957419012188434030 ∷ 7957419012188434030 ∷ 7957419012188434030 ∷ 7957419012188434030 ∷ 7957419012188434030 ∷ 7957419012188434030 ∷ 7957419012188434030 ∷ 7957419012188434030 ∷ 7957419012188434030 ∷ 7957419012188434030 ∷ 7957419012188434030 ∷ 7957419012188434030 ∷ 31083668016361070 ∷ [])
unfolding padded words_of word_of
words_of_name-one_below_longest = refl

words_of_name-longest : words_of_name (replicate 110 110) ≡ (7957419012188405870 ∷ 7957419012188434030 ∷ 7957419012188434030 ∷ 7957419012188434030 ∷ 7957419012188434030 ∷ 7957419012188434030 ∷ 7957419012188434030 ∷ 7957419012188434030 ∷ 7957419012188434030 ∷ 7957419012188434030 ∷ 7957419012188434030 ∷ 7957419012188434030 ∷ 7957419012188434030 ∷ 7957419012188434030 ∷ [])
unfolding padded words_of word_of
words_of_name-longest = refl

-- and back
name_in_words-one_letter : name_in_words (0x610001 ∷ replicate 13 0) ≡ codes "a"
unfolding name_in_words
name_in_words-one_letter = refl

name_in_words-seven_letters : name_in_words (7378413942531489799 ∷ 103 ∷ replicate 12 0) ≡ codes "abcdefg"
unfolding name_in_words
name_in_words-seven_letters = refl

-- ---- which bytes are no name

name_fault-empty : name_fault ([]) ≡ Some Bad
name_fault-empty = refl

name_fault-dot : name_fault (codes ".") ≡ Some Bad
name_fault-dot = refl

name_fault-two_dots : name_fault (codes "..") ≡ Some Bad
name_fault-two_dots = refl

name_fault-three_dots : name_fault (codes "...") ≡ None
name_fault-three_dots = refl

name_fault-slash : name_fault (codes "a/b") ≡ Some Bad
name_fault-slash = refl

name_fault-zero : name_fault (codes "a" ++ (0 ∷ [])) ≡ Some Bad
name_fault-zero = refl

name_fault-longest : name_fault (replicate 110 110) ≡ None
name_fault-longest = refl

name_fault-too_long : name_fault (replicate 111 110) ≡ Some TooLong
name_fault-too_long = refl

name_fault-too_long_with_slash : name_fault (replicate 111 110 ++ codes "/") ≡ Some Bad
name_fault-too_long_with_slash = refl

name_fault-too_long_with_zeros : name_fault (replicate 200 0) ≡ Some Bad
name_fault-too_long_with_zeros = refl
